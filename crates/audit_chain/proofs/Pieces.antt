-- A log that is read piece by piece.
use Rattle.std.proofs.Common.{◌≡◌, ℕ, ◌+◌, ◌-◌, ◌%◌, ◌^◌, ◌<◌, ◌≤◌, ◌⊎◌, inl, inr, Bool, true, false, List, [], ◌∷◌, ◌++◌, length, take, Option, Result, Ok, Err, refl, sym, ap, subst, ◌∙◌, arith, length-append}
use Rattle.std.specs.Prelude.{IsErrOf}
use Rattle.std.specs.List.{flat_map}
use Rattle.std.proofs.Math.Nat.{mod-eq_of_lt}
use Rattle.std.proofs.lemmas.List.{length-take-le, take-append-le, append-nil}
use Rattle.acra_devices.specs.Known.{Shrank, IsAtEnd}
use Rattle.acra_devices.specs.Grows.{shrank_then}
use Rattle.audit_chain.specs.Chains.{number_after}
use Rattle.audit_chain.specs.Points.{Point, StandsBehind}
use Rattle.audit_chain.specs.Findings.{written, Finding, Begins, IsBadLine, IsCutShort, IsTooLong}
use Rattle.audit_chain.specs.Walks.{IsAt, StopsIn, EndsAt}
use Rattle.audit_chain.specs.Reads.{PieceRead, PieceStops, SoFar, FoundIn, Ends}
use Rattle.audit_chain.specs.Verdicts.{Took}
use Rattle.audit_chain.specs.declared.walk.Walk.{Walk}
use Rattle.audit_chain.specs.declared.stop.Stop.{Stop}
use Rattle.audit_chain.specs.declared.stop.Stop.TheVariants as stops

-- the walk stopped in the piece, which stands at the front of a buffer
pub stops_in_piece : (key bytes : List ℕ) (left left' : Option (List ℕ)) (buf more : List ℕ) (count room : ℕ) (stop : Stop) → Shrank left left' (take count buf) → count ≤ length buf → count ≤ room → StopsIn key (bytes ++ take count (buf ++ more)) stop → PieceStops key bytes left left' room stop
stops_in_piece key bytes left left' buf more count room stop took held within h =
    let same : take count (buf ++ more) ≡ take count buf = take-append-le count buf more held in
    inr (take count buf, took, omega (arith, within, length-take-le count buf held), subst (λ (piece : List ℕ). StopsIn key (bytes ++ piece) stop) same h)

-- ---- what was read

pub took_none : (left left' : Option (List ℕ)) (room : ℕ) → Shrank left left' [] → Took left left' room
took_none left left' room none = record { bytes = []; took = none; within = omega arith }

pub took_front : (left left' : Option (List ℕ)) (buf : List ℕ) (count room : ℕ) → Shrank left left' (take count buf) → count ≤ length buf → count ≤ room → Took left left' room
took_front left left' buf count room took held within = record { bytes = take count buf; took = took; within = omega (arith, within, length-take-le count buf held) }

pub took_so_far : (key : List ℕ) (left0 left : Option (List ℕ)) (walk : Walk) (taken : ℕ) → SoFar key left0 left walk taken → taken ≤ 2 ^ 48 → Took left0 left (2 ^ 48)
took_so_far key left0 left walk taken s fits = record { bytes = s.bytes; took = s.took; within = omega (arith, s.count, fits) }

pub took_on : (key : List ℕ) (left0 left left' : Option (List ℕ)) (walk : Walk) (taken room : ℕ) → SoFar key left0 left walk taken → taken ≤ 2 ^ 48 → room ≡ 2 ^ 48 - taken → Took left left' room → Took left0 left' (2 ^ 48)
took_on key left0 left left' walk taken room s fits is_room t = record {
  bytes = s.bytes ++ t.bytes;
  took = shrank_then left0 left left' s.bytes t.bytes s.took t.took;
  within = omega (arith, s.count, fits, is_room, t.within, length-append s.bytes t.bytes);
}

-- an error that isn't this one, whatever the answer was to be
pub other_stop : {T U : Type 0} (stop fault : Stop) → (IsErrOf {T = T} (Err stop) fault → ⊥) → IsErrOf {T = U} (Err stop) fault → ⊥
other_stop stop fault not e = not (let same : stop ≡ fault = cc in ap Err same)

-- ---- the walk

pub reads_on : (key : List ℕ) (left0 left left' : Option (List ℕ)) (old new : Walk) (taken n room : ℕ) (s : SoFar key left0 left old taken) → PieceRead key s.bytes left left' new n room → SoFar key left0 left' new (taken + n)
reads_on key left0 left left' old new taken n room s p = record {
  bytes = s.bytes ++ p.piece;
  took = shrank_then left0 left left' s.bytes p.piece s.took p.took;
  count = omega (arith, s.count, p.count, length-append s.bytes p.piece);
  at = p.at;
}

pub written_long : (lines : List (List ℕ)) → length lines ≤ length (written lines)
written_long [] = omega arith
written_long (line ∷ lines) = omega (arith, written_long lines, length-append (line ++ 10 ∷ []) (written lines), length-append line (10 ∷ []))

-- there are as many lines as bytes at most, so their count doesn't go round
number_is : (key bytes : List ℕ) (lines : List (List ℕ)) (rest : List ℕ) (n : ℕ) → Begins key bytes lines rest → length bytes ≤ 2 ^ 48 → n ≡ number_after (length lines) → n ≡ length lines + 1
number_is key bytes lines rest n b within e =
    let most : length lines + 1 < 2 ^ 64 = omega (arith, ap length b.whole, length-append (written lines) rest, written_long lines, within) in
    e ∙ mod-eq_of_lt most

module _ (key : List ℕ) (left0 left left' : Option (List ℕ)) (old : Walk) (taken room : ℕ) (s : SoFar key left0 left old taken) (fits : taken ≤ 2 ^ 48) (is_room : room ≡ 2 ^ 48 - taken) where
  -- all that was read by then
  whole_piece : (piece : List ℕ) → length piece ≤ room → length (s.bytes ++ piece) ≤ 2 ^ 48
  whole_piece piece le = omega (arith, s.count, fits, is_room, le, length-append s.bytes piece)

  pub stopped : (stop : Stop) → PieceStops key s.bytes left left' room stop → Ends key left0 left' (Err stop)
  stopped stops.ReadFault h = tt
  stopped stops.NoMemory h = tt
  stopped stops.Spent h = elim h [ inl e ↦ absurd cc | inr p ↦ absurd p.3 ]
  stopped (stops.Broken n) h =
      elim h [
        | inl e ↦ absurd cc
        | inr p ↦
            let begins : Begins key (s.bytes ++ p.0) p.3.0 p.3.1 = p.3.2 in (
              false,
              record {
                bytes = s.bytes ++ p.0;
                took = shrank_then left0 left left' s.bytes p.0 s.took p.1;
                within = whole_piece p.0 p.2;
                last = λ e. absurd cc;
                spent = λ e. absurd cc;
                finds = (p.3.0, p.3.1, begins, (number_is key (s.bytes ++ p.0) p.3.0 p.3.1 n begins (whole_piece p.0 p.2) p.3.3, inl p.3.4));
              },
            )
      ]
  stopped (stops.LineTooLong n) h =
      elim h [
        | inl e ↦ absurd cc
        | inr p ↦
            let begins : Begins key (s.bytes ++ p.0) p.3.0 p.3.1 = p.3.2 in
            record {
              bytes = s.bytes ++ p.0;
              took = shrank_then left0 left left' s.bytes p.0 s.took p.1;
              within = whole_piece p.0 p.2;
              last = λ e. absurd cc;
              spent = λ e. absurd cc;
              finds = (p.3.0, p.3.1, begins, (number_is key (s.bytes ++ p.0) p.3.0 p.3.1 n begins (whole_piece p.0 p.2) p.3.3, p.3.4));
            }
      ]

pub ends_here : (key : List ℕ) (left0 left : Option (List ℕ)) (walk : Walk) (taken : ℕ) (s : SoFar key left0 left walk taken) → taken < 2 ^ 48 → IsAtEnd left → (result : Result Point Stop) → EndsAt key s.bytes result → Ends key left0 left result
ends_here key left0 left walk taken s fits over (Ok chain) h =
    let begins : Begins key s.bytes h.0 [] = h.1 in (
      h.0,
      record {
        bytes = s.bytes;
        took = s.took;
        within = omega (arith, s.count, fits);
        last = λ e. (over, omega (arith, s.count, fits));
        spent = λ e. absurd cc;
        finds = (h.0, [], begins, (refl, refl, refl));
      },
      h.2,
    )
ends_here key left0 left walk taken s fits over (Err (stops.Broken n)) h =
    let begins : Begins key s.bytes h.0 h.1 = h.2 in
    let within : length s.bytes ≤ 2 ^ 48 = omega (arith, s.count, fits) in (
      true,
      record {
        bytes = s.bytes;
        took = s.took;
        within = within;
        last = λ e. (over, omega (arith, s.count, fits));
        spent = λ e. absurd cc;
        finds = (h.0, h.1, begins, (number_is key s.bytes h.0 h.1 n begins within h.3, inr (refl, h.4)));
      },
    )
ends_here key left0 left walk taken s fits over (Err (stops.LineTooLong n)) h = absurd h
ends_here key left0 left walk taken s fits over (Err stops.Spent) h = absurd h
ends_here key left0 left walk taken s fits over (Err stops.ReadFault) h = absurd h
ends_here key left0 left walk taken s fits over (Err stops.NoMemory) h = absurd h
