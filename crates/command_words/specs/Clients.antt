-- A client's name in a word.
use Rattle.std.specs.Prelude.{ℕ, ◌&&◌, Bool, nat_le, if◌then◌else◌, List, length, Option, None, Some}
use Rattle.std.specs.List.{list_all}
use Rattle.acra_base.specs.Client.{is_id_byte}

-- a client's name: 1 to 64 of the bytes of names
abbrev pub is_id_text : List ℕ → Bool
is_id_text text = nat_le 1 (length text) && (nat_le (length text) 64 && list_all is_id_byte text)

-- the client of this name
abbrev pub client_of : List ℕ → Option (List ℕ)
client_of text = if is_id_text text then Some text else None
