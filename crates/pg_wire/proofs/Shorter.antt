-- What is behind a field is shorter.
use Rattle.std.proofs.Common.{◌≡◌, ℕ, ◌<◌, List, [], ◌∷◌, length, Ok, ap, arith}
use Rattle.pg_wire.specs.declared.front.Pair.{Pair}
use Rattle.pg_wire.specs.declared.back.ErrorField.{ErrorField}
use Rattle.byte_reader.specs.Fields.{◌>>=◌, str_at}
use Rattle.byte_reader.proofs.Steps.{bind_ok, ok_is}
use Rattle.byte_reader.proofs.Texts.{str_shorter}
use Rattle.pg_wire.specs.Bodies.{pair_at, error_at}

pub pair_shorter : (bytes : List ℕ) (x : Pair) (after : List ℕ) → pair_at bytes ≡ Ok (x, after) → length after < length bytes
unfolding pair_at
pair_shorter bytes x after e =
    let a = bind_ok (str_at bytes) (λ name. str_at name.1 >>= λ value. Ok (record { name = name.0; value = value.0 }, value.1)) (x, after) e in
    let b = bind_ok (str_at a.0.1) (λ value. Ok (record { name = a.0.0; value = value.0 }, value.1)) (x, after) a.2 in
    omega (arith, str_shorter bytes a.0 a.1, str_shorter a.0.1 b.0 b.1, ap length (ap (λ (y : Pair × List ℕ). y.1) (ok_is _ _ b.2)))

pub error_shorter : (bytes : List ℕ) (x : ErrorField) (after : List ℕ) → error_at bytes ≡ Ok (x, after) → length after < length bytes
unfolding error_at
error_shorter [] x after e = absurd cc
error_shorter (code ∷ bytes) x after e =
    let a = bind_ok (str_at bytes) (λ text. Ok (record { code = code; text = text.0 }, text.1)) (x, after) e in
    omega (arith, str_shorter bytes a.0 a.1, ap length (ap (λ (y : ErrorField × List ℕ). y.1) (ok_is _ _ a.2)))
