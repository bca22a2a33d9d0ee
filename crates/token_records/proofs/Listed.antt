-- Whole pieces, and where they stop.
use Rattle.std.proofs.Common.{◌≡◌, ℕ, ◌+◌, ◌-◌, ◌<◌, ◌^◌, List, [], ◌∷◌, ◌++◌, length, Result, Ok, Err, refl, sym, ap, subst, ◌∙◌, append_assoc, arith}
use Rattle.std.specs.Int.{w32, to_le_bytes}
use Rattle.std.proofs.lemmas.List.{length-append, append-nil}
use Rattle.std.proofs.lemmas.List.Concat.{flat_map-cons}
use Rattle.std.proofs.lemmas.Grind.{flat_map-append}
use Rattle.byte_reader.specs.Fields.{le_number_at, bytes_at}
use Rattle.byte_reader.proofs.Steps.{bind_ok, ok_is}
use Rattle.byte_reader.proofs.Taken.{IsBytes, Takes, Takes-then, bytes_take, bytes_again}
use Rattle.byte_reader.proofs.Widths.{le_wide32, number_takes, number_again}
use Rattle.token_records.specs.Pieces.{piece_bytes, pieces_bytes, AreShort, Begins, ArePieces, StopsAt, piece_at}

-- ---- the first piece

piece_takes : (bytes : List ℕ) (x : List ℕ × List ℕ) → IsBytes bytes → piece_at bytes ≡ Ok x → Takes bytes (piece_bytes x.0) x.1 × (length x.0 < 2 ^ 32)
piece_takes bytes x fits e =
    let a = bind_ok (le_number_at w32 bytes) (λ n. bytes_at n.0 n.1) x e in
    let n = number_takes w32 (2 ^ 32) le_wide32 bytes a.0 fits a.1 in
    let p = bytes_take a.0.0 a.0.1 x n.0.rest_fits a.2 in
    subst (λ (k : ℕ). Takes bytes (to_le_bytes w32 k ++ x.0) x.1 × (k < 2 ^ 32)) (sym p.1) (Takes-then bytes (to_le_bytes w32 a.0.0) a.0.1 x.0 x.1 n.0 p.0, n.1)

piece_again : (piece rest : List ℕ) → length piece < 2 ^ 32 → piece_at (piece_bytes piece ++ rest) ≡ Ok (piece, rest)
piece_again piece rest short =
    ap piece_at (append_assoc (to_le_bytes w32 (length piece)) piece rest) ∙ rw (number_again w32 (2 ^ 32) le_wide32 (length piece) (piece ++ rest) short) (bytes_again (length piece) piece rest refl)

-- where no piece is read, none begins
none_begins : (bytes : List ℕ) (left : ℕ) → piece_at bytes ≡ Err left → Begins bytes → ⊥
none_begins bytes left e b =
    let read : piece_at bytes ≡ Ok (b.piece, b.rest) = ap piece_at b.made ∙ piece_again b.piece b.rest b.short in
    let made : List ℕ × List ℕ = (b.piece, b.rest) in
    let both : ◌≡◌ {A = Result (List ℕ × List ℕ) ℕ} (Err left) (Ok made) = sym e ∙ read in
    absurd cc

nothing_begins : Begins [] → ⊥
nothing_begins b = absurd (omega (arith, ap length b.made, length-append (piece_bytes b.piece) b.rest, length-append (to_le_bytes w32 (length b.piece)) b.piece))

-- ---- whole pieces

first_piece : (piece : List ℕ) (pieces : List (List ℕ)) (rest : List ℕ) → pieces_bytes (piece ∷ pieces) ++ rest ≡ piece_bytes piece ++ (pieces_bytes pieces ++ rest)
first_piece piece pieces rest = ap (λ (r : List ℕ). r ++ rest) (flat_map-cons piece_bytes piece pieces) ∙ append_assoc (piece_bytes piece) (pieces_bytes pieces) rest

begun : (piece : List ℕ) (pieces : List (List ℕ)) (rest bytes : List ℕ) → length piece < 2 ^ 32 → bytes ≡ pieces_bytes (piece ∷ pieces) ++ rest → Begins bytes
begun piece pieces rest bytes short e = record { piece = piece; rest = pieces_bytes pieces ++ rest; short = short; made = e ∙ first_piece piece pieces rest }

-- bytes are whole pieces and a rest that begins with none in one way
split_once : (ps qs : List (List ℕ)) (r s : List ℕ) → AreShort ps → AreShort qs → (Begins r → ⊥) → (Begins s → ⊥) → pieces_bytes ps ++ r ≡ pieces_bytes qs ++ s → (ps ≡ qs) × (r ≡ s)
split_once [] [] r s g h x y e = (refl, e)
split_once [] (q ∷ qs) r s g h x y e = absurd (x (begun q qs s r h.0 e))
split_once (p ∷ ps) [] r s g h x y e = absurd (y (begun p ps r s g.0 (sym e)))
split_once (p ∷ ps) (q ∷ qs) r s g h x y e =
    let a : List ℕ × List ℕ = (p, pieces_bytes ps ++ r) in
    let b : List ℕ × List ℕ = (q, pieces_bytes qs ++ s) in
    let both : piece_bytes p ++ (pieces_bytes ps ++ r) ≡ piece_bytes q ++ (pieces_bytes qs ++ s) = sym (first_piece p ps r) ∙ (e ∙ first_piece q qs s) in
    let same : a ≡ b = ok_is a b (sym (piece_again p (pieces_bytes ps ++ r) g.0) ∙ (ap piece_at both ∙ piece_again q (pieces_bytes qs ++ s) h.0)) in
    let rest = split_once ps qs r s g.1 h.1 x y (ap (λ (z : List ℕ × List ℕ). z.1) same) in
    (consed p q ps qs (ap (λ (z : List ℕ × List ℕ). z.0) same) rest.0, rest.1)
  where
    consed : (p q : List ℕ) (ps qs : List (List ℕ)) → p ≡ q → ps ≡ qs → p ∷ ps ≡ q ∷ qs
    consed p q ps qs e f = cc

-- ---- as far as the reading has come

pub record SoFar (bytes : List ℕ) (pieces : List (List ℕ)) (rest : List ℕ) : Type 0 where
  pub short : AreShort pieces
  pub fits : IsBytes rest
  pub made : bytes ≡ pieces_bytes pieces ++ rest

pub starts : (bytes : List ℕ) → IsBytes bytes → SoFar bytes [] bytes
starts bytes fits = record { short = tt; fits = fits; made = refl }

short_more : (pieces : List (List ℕ)) (piece : List ℕ) → AreShort pieces → length piece < 2 ^ 32 → AreShort (pieces ++ piece ∷ [])
short_more [] piece g h = (h, tt)
short_more (p ∷ ps) piece g h = (g.0, short_more ps piece g.1 h)

pub one_more : (bytes : List ℕ) (pieces : List (List ℕ)) (rest piece behind : List ℕ) → SoFar bytes pieces rest → piece_at rest ≡ Ok (piece, behind) → SoFar bytes (pieces ++ piece ∷ []) behind
one_more bytes pieces rest piece behind s e =
    let t = piece_takes rest (piece, behind) s.fits e in
    let last : pieces_bytes (piece ∷ []) ≡ piece_bytes piece = flat_map-cons piece_bytes piece [] ∙ append-nil (piece_bytes piece) in
    let all : pieces_bytes (pieces ++ piece ∷ []) ≡ pieces_bytes pieces ++ piece_bytes piece = flat_map-append piece_bytes pieces (piece ∷ []) ∙ ap (λ (r : List ℕ). pieces_bytes pieces ++ r) last in
    record {
      short = short_more pieces piece s.short t.1;
      fits = t.0.rest_fits;
      made = s.made ∙ (ap (λ (r : List ℕ). pieces_bytes pieces ++ r) t.0.parts ∙ (sym (append_assoc (pieces_bytes pieces) (piece_bytes piece) behind) ∙ ap (λ (r : List ℕ). r ++ behind) (sym all)));
    }

pub less_left : (bytes : List ℕ) (pieces : List (List ℕ)) (rest piece behind : List ℕ) → SoFar bytes pieces rest → piece_at rest ≡ Ok (piece, behind) → length behind < length rest
less_left bytes pieces rest piece behind s e =
    let t = piece_takes rest (piece, behind) s.fits e in
    omega (arith, ap length t.0.parts, length-append (piece_bytes piece) behind, length-append (to_le_bytes w32 (length piece)) piece)

pub left_within : (bytes : List ℕ) (pieces : List (List ℕ)) (rest : List ℕ) → SoFar bytes pieces rest → length bytes ≡ length (pieces_bytes pieces) + length rest
left_within bytes pieces rest s = ap length s.made ∙ length-append (pieces_bytes pieces) rest

-- ---- the ends

empty_is : (xs : List ℕ) → length xs ≡ 0 → xs ≡ []
empty_is [] e = refl
empty_is (x ∷ xs) e = absurd (omega arith)

whole : (bytes : List ℕ) (pieces : List (List ℕ)) → ArePieces bytes pieces → bytes ≡ pieces_bytes pieces ++ []
whole bytes pieces w = w.made ∙ sym (append-nil (pieces_bytes pieces))

pub ends_whole : (bytes : List ℕ) (pieces : List (List ℕ)) (rest : List ℕ) → SoFar bytes pieces rest → length rest ≡ 0 → ArePieces bytes pieces
ends_whole bytes pieces rest s e = record { short = s.short; made = s.made ∙ (ap (λ (r : List ℕ). pieces_bytes pieces ++ r) (empty_is rest e) ∙ append-nil (pieces_bytes pieces)) }

pub whole_once : (bytes : List ℕ) (pieces other : List (List ℕ)) → ArePieces bytes pieces → ArePieces bytes other → pieces ≡ other
whole_once bytes pieces other w v = (split_once pieces other [] [] w.short v.short nothing_begins nothing_begins (sym (whole bytes pieces w) ∙ whole bytes other v)).0

pub not_both : (bytes : List ℕ) (pieces : List (List ℕ)) (place : ℕ) → ArePieces bytes pieces → StopsAt bytes place → ⊥
not_both bytes pieces place w s =
    let same : [] ≡ s.rest = (split_once pieces s.pieces [] s.rest w.short s.short nothing_begins s.cut (sym (whole bytes pieces w) ∙ s.made)).1 in
    omega (arith, s.more, ap length same)

pub stops : (bytes : List ℕ) (pieces : List (List ℕ)) (rest : List ℕ) (left : ℕ) → SoFar bytes pieces rest → 0 < length rest → piece_at rest ≡ Err left → StopsAt bytes (length bytes - length rest)
stops bytes pieces rest left s more e = record {
  pieces = pieces;
  rest = rest;
  short = s.short;
  made = s.made;
  before = omega (arith, left_within bytes pieces rest s);
  more = more;
  cut = none_begins rest left e;
}

pub stops_once : (bytes : List ℕ) (place other : ℕ) → StopsAt bytes place → StopsAt bytes other → place ≡ other
stops_once bytes place other s t =
    let same : s.pieces ≡ t.pieces = (split_once s.pieces t.pieces s.rest t.rest s.short t.short s.cut t.cut (sym s.made ∙ t.made)).0 in
    s.before ∙ (ap (λ (p : List (List ℕ)). length (pieces_bytes p)) same ∙ sym t.before)
