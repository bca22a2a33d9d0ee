-- The fields of a line.
use Rattle.std.proofs.Common.{◌≡◌, ◌≢◌, ℕ, ◌+◌, ◌^◌, ◌<◌, ◌≤◌, Bool, true, false, not, List, [], ◌∷◌, ◌++◌, length, Option, Some, None, refl, sym, ap, ◌∙◌, arith, append_assoc}
use Rattle.std.specs.Prelude.{nat_le, ◌==◌}
use Rattle.std.specs.List.{list_all}
use Rattle.std.proofs.lemmas.Bool.{ne_eqb}
use Rattle.std.specs.Fmt.{decimal}
use Rattle.hex.specs.Hex.{encode_lower}
use Rattle.audit_chain.specs.Kinds.{kind_word}
use Rattle.audit_chain.specs.Lines.{client_word, IsNote, note_text, line_of, is_within}
use Rattle.audit_chain.specs.declared.note.Note.{Note}
use Rattle.audit_chain.proofs.Bytes.{kind_passes, client_passes, detail_passes, number_passes, digits_pass}

-- a line, word for word
pub line_words : (number : ℕ) (note : Note) (mac : List ℕ) → line_of (note_text number note) mac ≡ decimal number ++ 32 ∷ (kind_word note.kind ++ 32 ∷ (client_word note.client ++ 32 ∷ (note.detail ++ 32 ∷ encode_lower mac)))
line_words number note mac =
    let d = decimal number in
    let k = 32 ∷ kind_word note.kind in
    let c = 32 ∷ client_word note.client in
    let t = 32 ∷ note.detail in
    let h = 32 ∷ encode_lower mac in
    append_assoc (d ++ k ++ c) t h ∙ append_assoc (d ++ k) c (t ++ h) ∙ append_assoc d k (c ++ (t ++ h))

above : (b x : ℕ) → x < b → not (b == x) ≡ true
above b x lt = ap not (ne_eqb b x (λ e. omega (arith, e)))

within_high : (b : ℕ) → 45 ≤ b → is_within b ≡ true
within_high b h = above b 32 (omega arith)

pub number_within : (number : ℕ) → number < 2 ^ 64 → list_all is_within (decimal number) ≡ true
number_within = number_passes is_within within_high refl

pub kind_within : (note : Note) → list_all is_within (kind_word note.kind) ≡ true
kind_within note = kind_passes is_within within_high refl note.kind

pub client_within : (note : Note) → IsNote note → list_all is_within (client_word note.client) ≡ true
client_within note formed = client_passes is_within within_high refl note.client formed.client

pub detail_within : (note : Note) → IsNote note → list_all is_within note.detail ≡ true
detail_within note formed = detail_passes is_within within_high refl note.detail formed.detail

pub digits_within : (mac : List ℕ) → list_all is_within (encode_lower mac) ≡ true
digits_within mac = digits_pass is_within within_high refl mac
