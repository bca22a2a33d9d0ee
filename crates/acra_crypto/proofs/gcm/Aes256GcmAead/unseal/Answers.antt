use Rattle.std.proofs.Common.{ap, ◌∙◌, sym, arith, true, false, ◌≡◌, ◌++◌, List, ℕ}
use Rattle.acra_crypto.specs.Words.{bytes_of}
use Rattle.acra_crypto.specs.Aes.{aes256, encrypted}
use Rattle.acra_crypto.proofs.Sealing.{unseal_short, unseal_other, unseal_made}
use Rattle.acra_crypto.proofs.gcm.Aes256GcmAead.unseal.Goals as goal

pub returns-then-text-lt-TAG_LEN-clause-ok : goal.returns-then-text-lt-TAG_LEN-clause-ok
returns-then-text-lt-TAG_LEN-clause-ok c =
    unseal_short (aes256 c.args.key.now) c.args.nonce.now c.args.extra.now c.args.text.now c.args.out.now.items c.if-text-lt-TAG_LEN.true

pub returns-then-not-is_same_tag-clause-ok : goal.returns-then-not-is_same_tag-clause-ok
unfolding aes256
returns-then-not-is_same_tag-clause-ok c =
    let key = ap encrypted c.new-keys.ensures in
    let differ = λ (e : c.split_at.result.1.now ≡ c.tag.result). absurd (false_true (sym c.if-not-is_same_tag.true ∙ c.is_same_tag.ensures.1 e)) in
    unseal_other _ (aes256 c.args.key.now) c.args.nonce.now c.args.extra.now c.args.text.now c.split_at.result.0.now c.split_at.result.1.now c.tag.result c.args.out.now.items key (sym c.split_at.ensures.by_index.0) (omega (arith, c.split_at.ensures.back_len)) c.tag.ensures differ
  where
    false_true : false ≡ true → ⊥
    false_true e = cc

pub returns-clause-ok : goal.returns-clause-ok
unfolding aes256
returns-clause-ok c =
    let words = bytes_of c.new-keys.result.words in
    let key = ap encrypted c.new-keys.ensures in
    unseal_made (encrypted words) (aes256 c.args.key.now) c.args.nonce.now c.args.extra.now c.args.text.now c.split_at.result.0.now c.split_at.result.1.now c.tag.result c.in_ok-plain.plain.items c.args.out.now.items _
    key c.told-nonce (sym c.split_at.ensures.by_index.0) c.tag.ensures (c.is_same_tag.ensures.0 c.if-not-is_same_tag.false) c.in_ok-plain.ensures
    (c.in_ok-extend_from_slice.ensures.items ∙ ap (λ (s : List ℕ). c.args.out.now.items ++ s) c.deref.ensures.value)
