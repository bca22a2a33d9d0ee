-- What a store tells of a token, to be kept.
use Rattle.std.specs.Prelude.{ℕ, List, [], Option, Some, None}
use Rattle.acra_base.specs.declared.kind.ValueKind.{ValueKind}
use Rattle.token_rule.specs.Entries.{Entry, entry_of}
use Rattle.token_store.specs.Stores.{Store}

-- a token, and whose plaintext it stands for, where it stands for any
pub record Known : Type 0 where
  pub kind : ValueKind
  pub token : ℕ
  pub owner : Option (List ℕ)
  pub plain : List ℕ

abbrev pub known_by : ValueKind → ℕ → Option Entry → Known
known_by kind token None = record { kind = kind; token = token; owner = None; plain = [] }
known_by kind token (Some e) = record { kind = kind; token = token; owner = Some e.want.owner; plain = e.want.plain }

abbrev pub known_of : Store → ValueKind → ℕ → Known
known_of s kind token = known_by kind token (entry_of s.entries kind token)
