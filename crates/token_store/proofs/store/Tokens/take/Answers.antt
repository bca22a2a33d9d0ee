use Rattle.std.proofs.Common.{refl, ap, rules}
use Rattle.token_store.specs.Stores.{Store}
use Rattle.token_store.proofs.Nexts.{none_next, full_next, standing_next, serial_next, token_next}
use Rattle.token_store.proofs.store.Tokens.take.Goals.{then-is_full-via-then-is_full, then-is_full-via-else-is_full+then-is_some, then-is_full-via-else-is_full+else-is_some+then-serial-len}
use Rattle.token_store.proofs.store.Tokens.take.Goals as goal

pub returns-in_default : goal.returns-in_default
returns-in_default g c = (refl, none_next (g.A.Aead.sealed c.args.aead.now) c.args.self.now c.args.piece.now c.in_ok-record.field-0 c.self.inside.store_key (ap (λ (t : Store). t.store_key) c.self.view_is) c.in_ok-record.ensures.only c.in_default.not-Some)

pub returns-then-is_full : goal.returns-then-is_full
returns-then-is_full g c =
    let sealed = g.A.Aead.sealed c.args.aead.now in (
      refl,
      elim c.then-is_full.branch [
        | then-is_full-via-then-is_full w ↦ full_next sealed c.args.self.now c.args.piece.now c.in_ok-record.field-0 c.self.inside.store_key (ap (λ (t : Store). t.store_key) c.self.view_is) c.in_ok-record.ensures.only c.in-Some.record c.in-Some.is (search rules)
        | then-is_full-via-else-is_full+then-is_some w ↦ standing_next sealed c.args.self.now c.args.piece.now c.in_ok-record.field-0 c.self.inside.store_key (ap (λ (t : Store). t.store_key) c.self.view_is) c.in_ok-record.ensures.only c.in-Some.record c.in-Some.is (search rules)
        | then-is_full-via-else-is_full+else-is_some+then-serial-len w ↦ serial_next sealed c.args.self.now c.args.piece.now c.in_ok-record.field-0 c.self.inside.store_key (ap (λ (t : Store). t.store_key) c.self.view_is) c.in_ok-record.ensures.only c.in-Some.record c.in-Some.is (search rules)
      ],
    )

pub returns-then-free_number-token : goal.returns-then-free_number-token
returns-then-free_number-token g c =
    (refl, token_next (g.A.Aead.sealed c.args.aead.now) c.args.self.now c.args.piece.now c.in_ok-record.field-0 c.self.inside.store_key (ap (λ (t : Store). t.store_key) c.self.view_is) c.in_ok-record.ensures.only c.in-Some.record c.in-Some.is c.free_number.result (search rules) (search rules) (search rules))
