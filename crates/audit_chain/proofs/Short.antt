-- A line that recomputes is short.
use Rattle.std.proofs.Common.{◌≡◌, ℕ, ◌+◌, ◌*◌, ◌^◌, ◌<◌, ◌≤◌, Bool, true, ◌&&◌, List, [], ◌∷◌, ◌++◌, length, Option, Some, None, refl, sym, ap, ◌∙◌, arith, lit<, lit≤, length-append}
use Rattle.std.specs.Prelude.{nat_le, IfSome}
use Rattle.std.specs.List.{list_all}
use Rattle.std.specs.Fmt.{decimal}
use Rattle.std.proofs.lemmas.Fmt.{length-decimal-le}
use Rattle.std.proofs.lemmas.Bool.{leb-true}
use Rattle.sha2.specs.Sha256.{sha256}
use Rattle.sha2.proofs.Facts256.{length-sha256}
use Rattle.hex.specs.Hex.{encode_lower, lower_digits}
use Rattle.hex.proofs.HexLemmas.{length-encode_with}
use Rattle.acra_base.specs.Client.{IsClientId}
use Rattle.acra_crypto.specs.Hmac.{hmac_sha256, outer_key, inner_key}
use Rattle.audit_chain.specs.Kinds.{kind_word}
use Rattle.audit_chain.specs.declared.kind.NoteKind.{NoteKind}
use Rattle.audit_chain.specs.declared.kind.NoteKind.TheVariants as kinds
use Rattle.audit_chain.specs.Details.{is_detail, is_detail_byte}
use Rattle.audit_chain.specs.Lines.{client_word, IsNote, note_text, line_of, covered}
use Rattle.audit_chain.specs.declared.note.Note.{Note}
use Rattle.audit_chain.specs.Chains.{key_after, mac_after, number_after, Recomputes}
use Rattle.audit_chain.proofs.Splitting.{both}
use Rattle.audit_chain.proofs.Fields.{line_words}
use Rattle.audit_chain.proofs.Going.{mac_after-more}
use Rattle.audit_chain.proofs.Behind.{next_fits}

hmac_length : (key text : List ℕ) → length (hmac_sha256 key text) ≡ 32
unfolding hmac_sha256
hmac_length key text = length-sha256 (outer_key key ++ sha256 (inner_key key ++ text))

kind_short : (kind : NoteKind) → length (kind_word kind) ≤ 6
kind_short kinds.Start = lit≤ tt
kind_short kinds.Deny = lit≤ tt
kind_short kinds.Refuse = lit≤ tt
kind_short kinds.Rotate = lit≤ tt
kind_short kinds.Sweep = lit≤ tt
kind_short kinds.Retire = lit≤ tt
kind_short kinds.Settle = lit≤ tt
kind_short kinds.Close = lit≤ tt

client_short : (client : Option (List ℕ)) → IfSome client IsClientId → length (client_word client) ≤ 64
client_short None h = lit≤ tt
client_short (Some text) h = h.most

detail_short : (text : List ℕ) → is_detail text ≡ true → length text ≤ 64
detail_short text h = leb-true (length text) 64 (both (nat_le 1 (length text)) (nat_le (length text) 64) (both (nat_le 1 (length text) && nat_le (length text) 64) (list_all is_detail_byte text) h).0).1

number_short : (n : ℕ) → length (decimal (number_after n)) ≤ 20
number_short n = length-decimal-le 20 (number_after n) (lit< tt) (omega (arith, next_fits n)) (next_fits n)

line_short : (d k c t h : List ℕ) → length d ≤ 20 → length k ≤ 6 → length c ≤ 64 → length t ≤ 64 → length h ≡ 64 → length (d ++ 32 ∷ (k ++ 32 ∷ (c ++ 32 ∷ (t ++ 32 ∷ h)))) ≤ 512
line_short d k c t h ld lk lc lt lh =
    omega (arith, ld, lk, lc, lt, lh, length-append d (32 ∷ (k ++ 32 ∷ (c ++ 32 ∷ (t ++ 32 ∷ h)))), length-append k (32 ∷ (c ++ 32 ∷ (t ++ 32 ∷ h))), length-append c (32 ∷ (t ++ 32 ∷ h)), length-append t (32 ∷ h))

pub recomputed_short : (key : List ℕ) (before : List (List ℕ)) (line : List ℕ) → Recomputes key before line → length line ≤ 512
recomputed_short key before line r =
    let mac = mac_after key (before ++ line ∷ []) in
    let mac_length : length mac ≡ 32 = ap length (mac_after-more key before line) ∙ hmac_length (key_after key (length before)) (mac_after key before ++ covered line) in
    let digits : length (encode_lower mac) ≡ 64 = omega (arith, length-encode_with lower_digits mac, mac_length) in
    let words : line ≡ decimal (number_after (length before)) ++ 32 ∷ (kind_word r.note.kind ++ 32 ∷ (client_word r.note.client ++ 32 ∷ (r.note.detail ++ 32 ∷ encode_lower mac))) = r.spelled ∙ line_words (number_after (length before)) r.note mac in
    let short = line_short (decimal (number_after (length before))) (kind_word r.note.kind) (client_word r.note.client) r.note.detail (encode_lower mac)
    (number_short (length before)) (kind_short r.note.kind) (client_short r.note.client r.formed.client) (detail_short r.note.detail r.formed.detail) digits in
    omega (arith, ap length words, short)
