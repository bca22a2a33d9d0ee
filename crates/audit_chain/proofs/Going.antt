-- A chain goes on line by line.
use Rattle.std.proofs.Common.{◌≡◌, ℕ, zero, suc, ◌+◌, ◌-◌, ◌%◌, ◌^◌, ◌<◌, ◌≤◌, ◌⊎◌, inl, inr, Bool, true, false, ◌&&◌, ◌||◌, not, List, [], ◌∷◌, ◌++◌, length, take, drop, reverse, replicate, Option, Some, None, refl, sym, ap, subst, ◌∙◌, arith, append_assoc, length-append, add-one}
use Rattle.std.specs.Prelude.{codes, nat_eq}
use Rattle.std.specs.List.{list_all, list_any, prefix_len, suffix_len, position_or_len, before_first, after_first, before_last}
use Rattle.std.specs.Cmp.Lexicographic.{pointwise}
use Rattle.std.specs.Fmt.{decimal}
use Rattle.std.proofs.Math.Seq.{take-append_seam, drop-append-add}
use Rattle.std.proofs.lemmas.List.{reverse-append, length-reverse}
use Rattle.std.proofs.lemmas.List.Folds.{list_all-append, list_any-append}
use Rattle.acra_crypto.specs.Hmac.{hmac_sha256}
use Rattle.hex.specs.Hex.{encode_lower, lower_digits}
use Rattle.audit_chain.specs.Kinds.{kind_word, is_close}
use Rattle.audit_chain.specs.declared.kind.NoteKind.{NoteKind}
use Rattle.audit_chain.specs.declared.kind.NoteKind.TheVariants as kinds
use Rattle.audit_chain.specs.Lines.{client_word, IsNote, note_text, line_of, covered, closes, is_space, is_within}
use Rattle.audit_chain.specs.Chains.{key_after, mac_from, mac_after, number_after, Recomputes, AllRecompute}
use Rattle.audit_chain.specs.Points.{Point, next_number, next_mac, next_line, point_after, start, IsNext, StandsBehind}
use Rattle.audit_chain.specs.declared.note.Note.{Note}
use Rattle.audit_chain.proofs.Splitting.{both, not_true}
use Rattle.audit_chain.proofs.Fields.{line_words, number_within, kind_within, digits_within}

-- ---- what stands before and behind a space

prefix_len-within : (word rest : List ℕ) → list_all is_within word ≡ true → prefix_len is_within (word ++ 32 ∷ rest) ≡ length word
prefix_len-within [] rest all = refl
prefix_len-within (b ∷ word) rest all =
    let parts = both (is_within b) (list_all is_within word) all in
    rw (not_true (is_space b) parts.0) (ap (λ (n : ℕ). 1 + n) (prefix_len-within word rest parts.1) ∙ omega arith)

before_first-word : (text word rest : List ℕ) → list_all is_within word ≡ true → text ≡ word ++ 32 ∷ rest → before_first is_space text ≡ word
before_first-word text word rest all e = rw (e, prefix_len-within word rest all) (take-append_seam word (32 ∷ rest))

after_first-word : (text word rest : List ℕ) → list_all is_within word ≡ true → text ≡ word ++ 32 ∷ rest → after_first is_space text ≡ rest
after_first-word text word rest all e = rw (e, prefix_len-within word rest all) (drop-append-add word (32 ∷ rest) 1)

list_all-reverse : (p : ℕ → Bool) (xs : List ℕ) → list_all p xs ≡ true → list_all p (reverse xs) ≡ true
list_all-reverse p [] all = refl
list_all-reverse p (x ∷ xs) all =
    let parts = both (p x) (list_all p xs) all in
    ap (list_all p) (reverse-append (x ∷ []) xs) ∙ list_all-append p (reverse xs) (x ∷ []) ∙ rw (list_all-reverse p xs parts.1, parts.0) refl

before_last-word : (text word : List ℕ) → list_all is_within word ≡ true → before_last is_space (text ++ 32 ∷ word) ≡ text
before_last-word text word all =
    let turned : reverse (text ++ 32 ∷ word) ≡ reverse word ++ 32 ∷ reverse text = ap reverse (sym (append_assoc text (32 ∷ []) word)) ∙ reverse-append (text ++ 32 ∷ []) word ∙ ap (λ (xs : List ℕ). reverse word ++ xs) (reverse-append text (32 ∷ [])) in
    let len : suffix_len is_within (text ++ 32 ∷ word) ≡ length word = ap (prefix_len is_within) turned ∙ prefix_len-within (reverse word) (reverse text) (list_all-reverse is_within word all) ∙ length-reverse word in
    let at : length (text ++ 32 ∷ word) - suffix_len is_within (text ++ 32 ∷ word) - 1 ≡ length text = omega (arith, len, length-append text (32 ∷ word)) in
    ap (λ (n : ℕ). take n (text ++ 32 ∷ word)) at ∙ take-append_seam text (32 ∷ word)

pub covered_line : (text mac : List ℕ) → covered (line_of text mac) ≡ text
covered_line text mac = before_last-word text (encode_lower mac) (digits_within mac)

word_closes : (kind : NoteKind) → pointwise nat_eq (kind_word kind) (codes "close") ≡ is_close kind
word_closes kinds.Start = refl
word_closes kinds.Deny = refl
word_closes kinds.Refuse = refl
word_closes kinds.Rotate = refl
word_closes kinds.Sweep = refl
word_closes kinds.Retire = refl
word_closes kinds.Settle = refl
word_closes kinds.Close = refl

pub closes_line : (number : ℕ) (note : Note) (mac : List ℕ) → number < 2 ^ 64 → closes (line_of (note_text number note) mac) ≡ is_close note.kind
closes_line number note mac lt =
    let behind = after_first-word (line_of (note_text number note) mac) (decimal number) _ (number_within number lt) (line_words number note mac) in
    let word = before_first-word _ (kind_word note.kind) _ (kind_within note) behind in
    ap (λ (xs : List ℕ). pointwise nat_eq xs (codes "close")) word ∙ word_closes note.kind

-- ---- one line more

mac_from-more : (key : List ℕ) (n : ℕ) (mac : List ℕ) (lines : List (List ℕ)) (line : List ℕ) →
    mac_from key n mac (lines ++ line ∷ []) ≡ hmac_sha256 (key_after key (n + length lines)) (mac_from key n mac lines ++ covered line)
mac_from-more key n mac [] line = ap (λ (m : ℕ). hmac_sha256 (key_after key m) (mac ++ covered line)) (omega arith)
mac_from-more key n mac (x ∷ lines) line =
    let next = hmac_sha256 (key_after key n) (mac ++ covered x) in
    mac_from-more key (suc n) next lines line ∙ ap (λ (m : ℕ). hmac_sha256 (key_after key m) (mac_from key (suc n) next lines ++ covered line)) (omega arith)

pub mac_after-more : (key : List ℕ) (lines : List (List ℕ)) (line : List ℕ) → mac_after key (lines ++ line ∷ []) ≡ hmac_sha256 (key_after key (length lines)) (mac_after key lines ++ covered line)
mac_after-more key lines line = mac_from-more key 0 (replicate 32 0) lines line ∙ ap (λ (m : ℕ). hmac_sha256 (key_after key m) (mac_after key lines ++ covered line)) (omega arith)
