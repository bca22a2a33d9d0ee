-- Messages appended one after another, and tags.
use Rattle.std.proofs.Common.{◌≡◌, ℕ, ◌<◌, ◌≤◌, ◌^◌, true, ltb, List, [], ◌∷◌, ◌++◌, length, codes, lit<, refl, append_assoc, append-nil, arith, length-append}
use Rattle.std.proofs.lemmas.Fmt.{length-decimal-le}
use Rattle.std.specs.List.{flat_map, list_all}
use Rattle.std.specs.Fmt.{decimal}
use Rattle.pg_wire.specs.declared.back.Back.{Back}
use Rattle.pg_wire.specs.declared.back.Back.TheVariants as backs
use Rattle.pg_wire.specs.Backs.{back_frame}
use Rattle.machine_replies.specs.Replies.{IsWritable, status}
use Rattle.lab_backend.proofs.Texts.{IsText-tag, IsText-from_test}

pub five_appended : (o0 o1 o2 o3 o4 o5 : List ℕ) (a b c d e : Back) → o1 ≡ o0 ++ back_frame a → o2 ≡ o1 ++ back_frame b → o3 ≡ o2 ++ back_frame c → o4 ≡ o3 ++ back_frame d → o5 ≡ o4 ++ back_frame e
    → o5 ≡ o0 ++ flat_map back_frame (a ∷ b ∷ c ∷ d ∷ e ∷ [])
five_appended o0 o1 o2 o3 o4 o5 a b c d e e1 e2 e3 e4 e5 = rw (e5, e4, e3, e2, e1) (simp (append_assoc, append-nil))

-- a word and a count
pub tag-writable : (text word : List ℕ) (count : ℕ) → text ≡ word ++ decimal count → list_all (ltb 0) word ≡ true → length word ≤ 16 → count < 2 ^ 64 → IsWritable (backs.Complete text)
tag-writable text word count e w h lt =
    let digits : length (decimal count) ≤ 20 = length-decimal-le 20 count (omega arith) (omega arith) lt in
    rw e (record { spelled = IsText-tag word count w lt; short = simp length-append (omega arith) })

pub setting-writable : IsWritable (status (codes "standard_conforming_strings") (codes "on"))
setting-writable = record {
  spelled = (IsText-from_test (codes "standard_conforming_strings") refl, IsText-from_test (codes "on") refl);
  short = lit< tt;
}
