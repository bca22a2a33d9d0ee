-- The chain: a list of lines, each of which goes on from all before it.
use Rattle.std.specs.Prelude.{ℕ, zero, suc, ◌≡◌, ◌+◌, ◌%◌, ◌^◌, List, [], ◌∷◌, ◌++◌, length, replicate, codes, Bool, true, false}
use Rattle.std.specs.List.{list_any}
use Rattle.acra_crypto.specs.Hmac.{hmac_sha256}
use Rattle.audit_chain.specs.Lines.{IsNote, note_text, line_of, covered, closes}
use Rattle.audit_chain.specs.declared.note.Note.{Note}

-- the key of the line behind so many lines: that of the first is the log's, and each next one is an HMAC under the one before
abbrev pub key_after : List ℕ → ℕ → List ℕ
key_after key zero = key
key_after key (suc n) = hmac_sha256 (key_after key n) (codes "next")

-- the mac of the last of these lines, where so many come before them and the last of those has this mac
abbrev pub mac_from : List ℕ → ℕ → List ℕ → List (List ℕ) → List ℕ
mac_from key n mac [] = mac
mac_from key n mac (line ∷ lines) = mac_from key (suc n) (hmac_sha256 (key_after key n) (mac ++ covered line)) lines

-- the mac that the last of these lines must have; behind no line it is 32 zeros
abbrev pub mac_after : List ℕ → List (List ℕ) → List ℕ
mac_after key lines = mac_from key 0 (replicate 32 0) lines

-- the number of the line behind so many lines
abbrev pub number_after : ℕ → ℕ
number_after n = (n + 1) % 2 ^ 64

-- the line recomputes behind these lines: it has its form, its number and its mac, and none of them closes the log
pub record Recomputes (key : List ℕ) (before : List (List ℕ)) (line : List ℕ) : Type 0 where
  pub note : Note
  pub formed : IsNote note
  pub spelled : line ≡ line_of (note_text (number_after (length before)) note) (mac_after key (before ++ line ∷ []))
  pub unclosed : list_any closes before ≡ false

-- each line recomputes behind those before it
abbrev pub AllRecompute : List ℕ → List (List ℕ) → Type 0
AllRecompute key lines = (before : List (List ℕ)) (line : List ℕ) (behind : List (List ℕ)) → lines ≡ before ++ line ∷ behind → Recomputes key before line
