-- A text that is a client's name passes, and no other does.
use Rattle.std.proofs.Common.{◌≡◌, ℕ, suc, ◌≤◌, ◌<◌, true, List, [], ◌∷◌, length, get_or, Some, refl, sym, ap, arith}
use Rattle.std.specs.List.{list_all}
use Rattle.std.proofs.lemmas.Bool.{le-leb}
use Rattle.acra_base.specs.Client.{is_id_byte, IsClientId}
use Rattle.command_words.specs.Clients.{is_id_text, client_of}

all_bytes : (text : List ℕ) → ((i : ℕ) → i < length text → is_id_byte (get_or text i 0) ≡ true) → list_all is_id_byte text ≡ true
all_bytes [] h = refl
all_bytes (x ∷ xs) h = rw (h 0 (omega arith)) (all_bytes xs (λ i lt. h (suc i) (omega arith)))

pub id_passes : (text : List ℕ) → IsClientId text → is_id_text text ≡ true
id_passes text is = let least : 1 ≤ length text = omega (arith, is.least) in rw (le-leb _ _ least, le-leb _ _ is.most, all_bytes text is.each) refl

pub client_again : (word text client : List ℕ) → text ≡ word → client ≡ text → IsClientId text → Some client ≡ client_of word
client_again word text client w c is = rw (sym w, id_passes text is) (ap Some c)
