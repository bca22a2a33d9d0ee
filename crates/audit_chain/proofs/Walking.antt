-- One step of a walk along a log.
use Rattle.std.proofs.Common.{◌≡◌, ℕ, suc, ◌+◌, ◌-◌, ◌^◌, ◌<◌, ◌≤◌, ◌⊎◌, inl, inr, Bool, true, false, ◌&&◌, not, List, [], ◌∷◌, ◌++◌, length, take, drop, get_or, drop-cons, refl, sym, ap, subst, ◌∙◌, arith, append_assoc, length-append}
use Rattle.std.specs.Prelude.{◌==◌}
use Rattle.std.specs.List.{list_all, flat_map, AllByRecursion}
use Rattle.std.proofs.lemmas.List.{append-nil, take-append-drop}
use Rattle.std.proofs.lemmas.List.Folds.{list_all-append}
use Rattle.std.proofs.lemmas.Grind.{flat_map-append}
use Rattle.std.proofs.lemmas.Bool.{ne_eqb}
use Rattle.audit_chain.specs.Chains.{number_after, Recomputes, AllRecompute}
use Rattle.audit_chain.specs.Points.{Point, next_number, point_after, start, IsNext, StandsBehind}
use Rattle.audit_chain.specs.Findings.{written, is_one_line, Begins, IsBadLine, IsTooLong}
use Rattle.audit_chain.specs.Walks.{IsAt, StopsIn}
use Rattle.audit_chain.specs.declared.walk.Walk.{Walk}
use Rattle.audit_chain.specs.declared.note.Note.{Note}
use Rattle.audit_chain.specs.declared.stop.Stop.{Stop}
use Rattle.audit_chain.specs.declared.stop.Stop.TheVariants as stops
use Rattle.audit_chain.proofs.Behind.{number_again, only_next, stands_next}

all_append : {X : Type 0} (P : X → Type 0) (xs ys : List X) → AllByRecursion P xs → AllByRecursion P ys → AllByRecursion P (xs ++ ys)
all_append P [] ys h k = k
all_append P (x ∷ xs) ys h k = (h.0, all_append P xs ys h.1 k)

abbrev pub IsSingle : List ℕ → Type 0
IsSingle line = is_one_line line ≡ true

pub single_more : (lines : List (List ℕ)) (line : List ℕ) → AllByRecursion IsSingle lines → IsSingle line → AllByRecursion IsSingle (lines ++ line ∷ [])
single_more lines line each last = all_append IsSingle lines (line ∷ []) each (last, tt)

pub written_more : (lines : List (List ℕ)) (line : List ℕ) → written (lines ++ line ∷ []) ≡ written lines ++ (line ++ 10 ∷ [])
written_more lines line = flat_map-append (λ (l : List ℕ). l ++ 10 ∷ []) lines (line ∷ []) ∙ ap (λ (xs : List ℕ). written lines ++ xs) (append-nil (line ++ 10 ∷ []))

-- what stands behind the lines grows with the bytes
pub begins_more : (key bytes more : List ℕ) (lines : List (List ℕ)) (rest : List ℕ) → Begins key bytes lines rest → Begins key (bytes ++ more) lines (rest ++ more)
begins_more key bytes more lines rest b = record {
  whole = ap (λ (xs : List ℕ). xs ++ more) b.whole ∙ append_assoc (written lines) rest more;
  single = b.single;
  each = b.each;
}

pub line_ends : (key bytes : List ℕ) (lines : List (List ℕ)) (line : List ℕ) → Begins key bytes lines line → IsSingle line → AllRecompute key (lines ++ line ∷ []) → Begins key (bytes ++ 10 ∷ []) (lines ++ line ∷ []) []
line_ends key bytes lines line b last each = record {
  whole = (begins_more key bytes (10 ∷ []) lines line b).whole ∙ sym (written_more lines line) ∙ sym (append-nil (written (lines ++ line ∷ [])));
  single = single_more lines line b.single last;
  each = each;
}

pub walks_on : (key bytes : List ℕ) (old new : Walk) (note : Note) (line : List ℕ) → IsAt key old bytes → line ≡ old.pending.items → IsNext old.chain line note → new.chain ≡ point_after old.chain note → new.pending.items ≡ [] → IsAt key new (bytes ++ 10 ∷ [])
walks_on key bytes old new note line at same next chain empty =
    let here : IsNext old.chain old.pending.items note = subst (λ (l : List ℕ). IsNext old.chain l note) same next in
    let stands = stands_next key at.lines old.chain note old.pending.items at.stands here in
    record {
      lines = at.lines ++ old.pending.items ∷ [];
      begins = rw empty (line_ends key bytes at.lines old.pending.items at.begins at.single stands.each);
      stands = subst (λ (p : Point). StandsBehind key (at.lines ++ old.pending.items ∷ []) p) (sym chain) stands;
      single = ap is_one_line empty;
      short = omega (arith, ap length empty);
    }

pub bad_line : (key bytes : List ℕ) (old : Walk) (line : List ℕ) (number : ℕ) → IsAt key old bytes → line ≡ old.pending.items → number ≡ next_number old.chain → ((note : Note) → IsNext old.chain line note → ⊥) → StopsIn key (bytes ++ 10 ∷ []) (stops.Broken number)
bad_line key bytes old line number at same count never = (
  at.lines,
  old.pending.items ++ 10 ∷ [],
  begins_more key bytes (10 ∷ []) at.lines old.pending.items at.begins,
  count ∙ number_again old.chain.number (length at.lines) at.stands.number,
  record {
    line = old.pending.items;
    behind = [];
    parts = refl;
    single = at.single;
    short = at.short;
    bad = λ r. never r.note (subst (λ (l : List ℕ). IsNext old.chain l r.note) (sym same) (only_next key at.lines old.chain old.pending.items at.stands r));
  },
)

pub too_long : (key bytes : List ℕ) (old : Walk) (byte number : ℕ) → IsAt key old bytes → (byte ≡ 10 → ⊥) → 512 ≤ length old.pending.items → number ≡ next_number old.chain → StopsIn key (bytes ++ byte ∷ []) (stops.LineTooLong number)
too_long key bytes old byte number at other long count = (
  at.lines,
  old.pending.items ++ byte ∷ [],
  begins_more key bytes (byte ∷ []) at.lines old.pending.items at.begins,
  count ∙ number_again old.chain.number (length at.lines) at.stands.number,
  record {
    front = old.pending.items ++ byte ∷ [];
    behind = [];
    parts = sym (append-nil (old.pending.items ++ byte ∷ []));
    single = list_all-append (λ (b : ℕ). not (b == 10)) old.pending.items (byte ∷ []) ∙ rw (at.single, ne_eqb byte 10 other) refl;
    long = omega (arith, at.short, long, length-append old.pending.items (byte ∷ []));
  },
)

pub stops_more : (key bytes more : List ℕ) (stop : Stop) → StopsIn key bytes stop → StopsIn key (bytes ++ more) stop
stops_more key bytes more (stops.Broken number) h =
    let bad : IsBadLine key h.0 h.1 = h.4 in (
      h.0,
      h.1 ++ more,
      begins_more key bytes more h.0 h.1 h.2,
      h.3,
      record { line = bad.line; behind = bad.behind ++ more; parts = ap (λ (xs : List ℕ). xs ++ more) bad.parts ∙ append_assoc bad.line (10 ∷ bad.behind) more; single = bad.single; short = bad.short; bad = bad.bad },
    )
stops_more key bytes more (stops.LineTooLong number) h =
    let long : IsTooLong h.1 = h.4 in (
      h.0,
      h.1 ++ more,
      begins_more key bytes more h.0 h.1 h.2,
      h.3,
      record { front = long.front; behind = long.behind ++ more; parts = ap (λ (xs : List ℕ). xs ++ more) long.parts ∙ append_assoc long.front long.behind more; single = long.single; long = long.long },
    )
stops_more key bytes more stops.NoMemory h = tt
stops_more key bytes more stops.ReadFault h = h
stops_more key bytes more stops.Spent h = h

along : (bytes piece : List ℕ) (i : ℕ) → i < length piece → ((bytes ++ take i piece) ++ get_or piece i 0 ∷ []) ++ drop (suc i) piece ≡ bytes ++ piece
along bytes piece i lt =
    append_assoc (bytes ++ take i piece) (get_or piece i 0 ∷ []) (drop (suc i) piece) ∙ append_assoc bytes (take i piece) (get_or piece i 0 ∷ drop (suc i) piece)
    ∙ ap (λ (xs : List ℕ). bytes ++ xs) (ap (λ (xs : List ℕ). take i piece ++ xs) (sym (drop-cons piece i 0 lt)) ∙ take-append-drop i piece)

pub stops_along : (key bytes piece : List ℕ) (i : ℕ) (stop : Stop) → i < length piece → StopsIn key ((bytes ++ take i piece) ++ get_or piece i 0 ∷ []) stop → StopsIn key (bytes ++ piece) stop
stops_along key bytes piece i stop lt h = subst (λ (xs : List ℕ). StopsIn key xs stop) (along bytes piece i lt) (stops_more key _ (drop (suc i) piece) stop h)
