use Rattle.std.proofs.Common.{◌≡◌, ◌-◌, ℕ, List, IfOk, length, take, drop, subst}
use Rattle.std.proofs.lemmas.List.{take_rest}
use Rattle.acra_block.proofs.container.open_value.Goals as goal

pub returns : goal.returns
returns g c =
    let opened = g.A.Aead.opened c.args.aead.now in
    let bytes = c.args.bytes.now in
    let extra = c.args.extra.now in
    let nonce = take 12 (drop 84 bytes) in
    let rest : take (length bytes - 96) (drop 96 bytes) ≡ drop 96 bytes = take_rest bytes 96 in
    subst (λ (seal : List ℕ). IfOk c.unsealed.result (λ found. found ≡ opened c.args.data_key.now nonce extra seal)) rest
    (subst (λ (key : List ℕ). IfOk c.unsealed.result (λ found. found ≡ opened key nonce extra (take (length bytes - 96) (drop 96 bytes)))) c.copy_from_slice.ensures.after c.unsealed.ensures)
