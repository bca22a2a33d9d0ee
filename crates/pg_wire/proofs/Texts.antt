-- Pairs that are read are those that were written, and what was written is read again.
use Rattle.std.proofs.Common.{◌≡◌, ℕ, List, ◌++◌, Ok, refl, ap, subst, ◌∙◌, append_assoc}
use Rattle.pg_wire.specs.declared.front.Pair.{Pair}
use Rattle.byte_reader.proofs.Steps.{bind_ok, ok_is}
use Rattle.byte_reader.proofs.Taken.{IsBytes, Takes, Takes-then}
use Rattle.byte_reader.proofs.Texts.{str_takes, str_again}
use Rattle.byte_reader.specs.Fields.{◌>>=◌, str_at, str}
use Rattle.pg_wire.specs.Fronts.{IsPair, pair_bytes}
use Rattle.pg_wire.specs.Bodies.{pair_at}

pub pair_takes : (bytes : List ℕ) (x : Pair × List ℕ) → IsBytes bytes → pair_at bytes ≡ Ok x → Takes bytes (pair_bytes x.0) x.1 × IsPair x.0
unfolding pair_at
pair_takes bytes x fits e =
    let a = bind_ok (str_at bytes) (λ name. str_at name.1 >>= λ value. Ok (record { name = name.0; value = value.0 }, value.1)) x e in
    let b = bind_ok (str_at a.0.1) (λ value. Ok (record { name = a.0.0; value = value.0 }, value.1)) x a.2 in
    let t0 = str_takes bytes a.0 fits a.1 in
    let t1 = str_takes a.0.1 b.0 t0.0.rest_fits b.1 in
    let made : Pair × List ℕ = (record { name = a.0.0; value = b.0.0 }, b.0.1) in
    subst (λ (y : Pair × List ℕ). Takes bytes (pair_bytes y.0) y.1 × IsPair y.0) (ok_is made x b.2) (Takes-then bytes (str a.0.0) a.0.1 (str b.0.0) b.0.1 t0.0 t1.0, (t0.1, t1.1))

pub pair_again : (p : Pair) (rest : List ℕ) → IsPair p → pair_at (pair_bytes p ++ rest) ≡ Ok (p, rest)
unfolding pair_at
pair_again p rest is =
    let regrouped : pair_bytes p ++ rest ≡ str p.name ++ (str p.value ++ rest) = append_assoc (str p.name) (str p.value) rest in
    ap pair_at regrouped ∙ rw (str_again p.name (str p.value ++ rest) is.0, str_again p.value rest is.1) refl
