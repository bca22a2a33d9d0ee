use Rattle.std.proofs.Common.{◌≡◌, ℕ, [], ◌∷◌, length, sym, subst, ◌∙◌, arith}
use Rattle.acra_devices.specs.declared.device.Failed.{Failed}
use Rattle.keystore.specs.Answers.{add_refusal}
use Rattle.keystore.specs.declared.refusals.AddRefusal.TheVariants as no_add
use Rattle.keys_core.specs.Draws.{nonce_unless, DrewBy}
use Rattle.keys_core.proofs.Draws.{drew_ok, draw_failed, first_missed, one_made, taken_due, refused_drew, work_then, work_drew}
use Rattle.keystore.specs.Kept.{IsKept}
use Rattle.ring_file.specs.Form.{IsFileRing}
use Rattle.keys_core.proofs.Again.{client_file_ring, answers_none, new_keys_long, makes_file}
use Rattle.keys_core.proofs.work.generate.Goals as goal

pub returns-in-Ok-key_line-clause-kept : goal.returns-in-Ok-key_line-clause-kept
returns-in-Ok-key_line-clause-kept g c rules =
    let full : length c.draw.new.out ≡ 64 = omega arith in
    let long = new_keys_long c.draw.new.out c.new_keys.result full c.new_keys.ensures in
    makes_file c.args.master.now c.changed.result
    (c.changed.ensures.kept (λ kept.
    subst IsFileRing (sym c.in-Ok.ensures.ring)
    (client_file_ring c.args.ring.now c.args.who.now c.new_keys.result rules (answers_none _ _ _ c.in-Ok.id c.in-Ok.ensures.answer) c.is_spelled.ensures long.0 long.1 (subst IsKept c.in-Ok.ensures.ring kept))))

-- ---- what is drawn

pub returns-then-is_err-clause-drawn : goal.returns-then-is_err-clause-drawn
returns-then-is_err-clause-drawn g c =
    first_missed 64 (nonce_unless (add_refusal c.args.ring.now c.args.who.now)) (g.R.Random.coming c.args.random.now) (g.R.Random.coming c.draw.new.self)
    (draw_failed {E = Failed} (g.R.Random.coming c.args.random.now) (g.R.Random.coming c.draw.new.self) c.draw.result c.draw.new.out c.draw.ensures.bytes (sym c.is_err.ensures.value ∙ c.if-is_err.true))

pub returns-in-Ok-key_line-clause-drawn : goal.returns-in-Ok-key_line-clause-drawn
returns-in-Ok-key_line-clause-drawn g c =
    let full : length c.draw.new.out ≡ 64 = omega arith in
    let drew : DrewBy (64 ∷ []) (g.R.Random.coming c.args.random.now) (g.R.Random.coming c.draw.new.self) =
    drew_ok {E = Failed} 64 (g.R.Random.coming c.args.random.now) (g.R.Random.coming c.draw.new.self) c.draw.result c.draw.new.out full c.draw.ensures.bytes (sym c.is_err.ensures.value ∙ c.if-is_err.false) in
    work_then (64 ∷ []) (12 ∷ []) (64 ∷ nonce_unless (add_refusal c.args.ring.now c.args.who.now)) (g.R.Random.coming c.args.random.now) (g.R.Random.coming c.draw.new.self) (g.R.Random.coming c.changed.new.random) c.changed.result
    (taken_due (add_refusal c.args.ring.now c.args.who.now) (answers_none _ _ _ c.in-Ok.id c.in-Ok.ensures.answer)) drew c.changed.ensures.drawn

pub returns-in-Err-clause-drawn : goal.returns-in-Err-clause-drawn
returns-in-Err-clause-drawn g c =
    let full : length c.draw.new.out ≡ 64 = omega arith in
    let drew : DrewBy (64 ∷ []) (g.R.Random.coming c.args.random.now) (g.R.Random.coming c.draw.new.self) =
    drew_ok {E = Failed} 64 (g.R.Random.coming c.args.random.now) (g.R.Random.coming c.draw.new.self) c.draw.result c.draw.new.out full c.draw.ensures.bytes (sym c.is_err.ensures.value ∙ c.if-is_err.false) in
    one_made 64 (nonce_unless (add_refusal c.args.ring.now c.args.who.now)) (g.R.Random.coming c.args.random.now) (g.R.Random.coming c.draw.new.self) drew

pub returns-in-Err-Exists-clause-drawn : goal.returns-in-Err-Exists-clause-drawn
returns-in-Err-Exists-clause-drawn g c =
    let full : length c.draw.new.out ≡ 64 = omega arith in
    let drew : DrewBy (64 ∷ []) (g.R.Random.coming c.args.random.now) (g.R.Random.coming c.draw.new.self) =
    drew_ok {E = Failed} 64 (g.R.Random.coming c.args.random.now) (g.R.Random.coming c.draw.new.self) c.draw.result c.draw.new.out full c.draw.ensures.bytes (sym c.is_err.ensures.value ∙ c.if-is_err.false) in
    work_drew (64 ∷ nonce_unless (add_refusal c.args.ring.now c.args.who.now)) (g.R.Random.coming c.args.random.now) (g.R.Random.coming c.draw.new.self) c.refused.result c.refused.ensures.stopped
    (refused_drew {T = ℕ} (add_refusal c.args.ring.now c.args.who.now) no_add.Exists (λ (id : ℕ). id ≡ c.args.ring.now.next_id) (g.R.Random.coming c.args.random.now) (g.R.Random.coming c.draw.new.self) (rw c.in-Err-Exists.field-0-is at c.in-Err-Exists.ensures.answer) (λ e. cc e) drew)

pub returns-in-Err-TooMany-clause-drawn : goal.returns-in-Err-TooMany-clause-drawn
returns-in-Err-TooMany-clause-drawn g c =
    let full : length c.draw.new.out ≡ 64 = omega arith in
    let drew : DrewBy (64 ∷ []) (g.R.Random.coming c.args.random.now) (g.R.Random.coming c.draw.new.self) =
    drew_ok {E = Failed} 64 (g.R.Random.coming c.args.random.now) (g.R.Random.coming c.draw.new.self) c.draw.result c.draw.new.out full c.draw.ensures.bytes (sym c.is_err.ensures.value ∙ c.if-is_err.false) in
    work_drew (64 ∷ nonce_unless (add_refusal c.args.ring.now c.args.who.now)) (g.R.Random.coming c.args.random.now) (g.R.Random.coming c.draw.new.self) c.refused-in-Err-TooMany.result c.refused-in-Err-TooMany.ensures.stopped
    (refused_drew {T = ℕ} (add_refusal c.args.ring.now c.args.who.now) no_add.TooMany (λ (id : ℕ). id ≡ c.args.ring.now.next_id) (g.R.Random.coming c.args.random.now) (g.R.Random.coming c.draw.new.self) (rw c.in-Err-TooMany.field-0-is at c.in-Err-TooMany.ensures.answer) (λ e. cc e) drew)

pub returns-in-Err-NoMemory-clause-drawn : goal.returns-in-Err-NoMemory-clause-drawn
returns-in-Err-NoMemory-clause-drawn g c =
    let full : length c.draw.new.out ≡ 64 = omega arith in
    let drew : DrewBy (64 ∷ []) (g.R.Random.coming c.args.random.now) (g.R.Random.coming c.draw.new.self) =
    drew_ok {E = Failed} 64 (g.R.Random.coming c.args.random.now) (g.R.Random.coming c.draw.new.self) c.draw.result c.draw.new.out full c.draw.ensures.bytes (sym c.is_err.ensures.value ∙ c.if-is_err.false) in
    one_made 64 (nonce_unless (add_refusal c.args.ring.now c.args.who.now)) (g.R.Random.coming c.args.random.now) (g.R.Random.coming c.draw.new.self) drew
