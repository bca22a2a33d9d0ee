use Rattle.std.proofs.Common.{refl, List, ℕ, [], ap, ◌∙◌, ◌++◌}
use Rattle.acra_crypto.specs.Opening.{unsealed_value}
use Rattle.acra_crypto.proofs.aead.sealed_again.Goals as goal

pub returns-then-branch : goal.returns-then-branch
returns-then-branch g c =
    let key = c.args.key.now in
    let nonce = c.args.nonce.now in
    let cipher = c.args.cipher.now in
    let plain = c.args.plain.now in
    let text = c.deref.ensures.value ∙ c.in_ok-seal.ensures.ok ∙ ap (λ (xs : List ℕ). xs ++ g.A.Aead.sealed cipher key nonce [] plain) c.new-text.ensures.items in (
      c.unseal.new.out,
      refl,
      unsealed_value (g.A.Aead.opened cipher key nonce [] c.deref.result.now) _ c.new-back.result.items c.unseal.new.out.items plain c.if-branch.true c.in_ok-unseal.ensures.ok c.new-back.ensures.items
          (ap (λ (s : List ℕ). g.A.Aead.opened cipher key nonce [] s) text ∙ g.met.A.Aead.opens cipher key nonce [] plain),
    )
