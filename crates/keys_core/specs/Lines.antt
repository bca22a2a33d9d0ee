-- What is printed.
use Rattle.std.specs.Prelude.{ℕ, ◌+◌, List, [], ◌∷◌, ◌++◌, length, codes}
use Rattle.std.specs.List.{flat_map, sum_by}
use Rattle.std.specs.Fmt.{decimal}
use Rattle.keystore.specs.declared.phase.OldPhase.{OldPhase}
use Rattle.keystore.specs.declared.phase.OldPhase.TheVariants as old_phases
use Rattle.keystore.specs.declared.phase.OldKey.{OldKey}
use Rattle.keystore.specs.Rings.{ClientKeys}
use Rattle.keys_core.specs.declared.status.Refusal.{Refusal}
use Rattle.keys_core.specs.declared.status.Refusal.TheVariants as refusal

-- ID KEY, and what follows
abbrev pub key_then : List ℕ → ℕ → List ℕ → List ℕ
key_then name id behind = name ++ (32 ∷ (decimal id ++ behind))

abbrev pub newline : List ℕ
newline = 10 ∷ []

abbrev pub phase_line : List ℕ → ℕ → List ℕ → List ℕ
phase_line name id word = key_then name id (32 ∷ (word ++ newline))

abbrev pub old_word : OldPhase → List ℕ
old_word (old_phases.Draining since) = codes "draining"
old_word (old_phases.Swept since) = codes "swept"

abbrev pub old_line : List ℕ → OldKey → List ℕ
old_line name k = phase_line name k.id (old_word k.phase)

abbrev pub client_lines : ClientKeys → List ℕ
client_lines c = flat_map (old_line c.name) c.past ++ phase_line c.name c.id (codes "current")

abbrev pub ring_lines : List ClientKeys → List ℕ
ring_lines clients = flat_map client_lines clients

abbrev pub key_count : List ClientKeys → ℕ
key_count clients = sum_by (λ (c : ClientKeys). length c.past + 1) clients

abbrev pub check_line : List ClientKeys → List ℕ
check_line clients = codes "clients " ++ (decimal (length clients) ++ (codes " keys " ++ (decimal (key_count clients) ++ newline)))

abbrev pub refusal_word : Refusal → List ℕ
refusal_word refusal.Exists = codes "exists"
refusal_word refusal.TooMany = codes "too-many"
refusal_word refusal.NoSuchKey = codes "no-such-key"
refusal_word refusal.NotSwept = codes "not-swept"

abbrev pub refused_line : Refusal → List ℕ
refused_line why = codes "refused " ++ (refusal_word why ++ newline)
