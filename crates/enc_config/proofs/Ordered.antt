-- A text has one answer.
use Rattle.std.proofs.Common.{◌≡◌, ℕ, List, sym, ap, ◌∙◌, Some}
use Rattle.json_rules.proofs.Ordered.{same_rule, same_place, not_both}
use Rattle.enc_config.specs.Policies.{policy_of}
use Rattle.enc_config.specs.Reads.{IsPolicy, IsRefusal, broken, refusal_at}
use Rattle.enc_config.specs.declared.policy.Table.{Table}
use Rattle.enc_config.specs.declared.read.ConfigRefusal.{ConfigRefusal}

pub one_refusal : (text : List ℕ) (a b : ConfigRefusal) → IsRefusal text a → IsRefusal text b → a ≡ b
one_refusal text a b h k =
    let rule = same_rule (broken text) a.rule b.rule h.place k.place h.least k.least in
    let place = same_place (broken text) a.rule b.rule h.place k.place h.least k.least in
    h.numbers ∙ (ap (λ r. refusal_at r h.place) rule ∙ (ap (refusal_at b.rule) place ∙ sym k.numbers))

pub no_refusal : (text : List ℕ) (policy : List Table) (a : ConfigRefusal) → IsPolicy text policy → IsRefusal text a → ⊥
no_refusal text policy a h k = not_both (broken text) a.rule k.place k.least h.unbroken

pub one_policy : (text : List ℕ) (p q : List Table) → IsPolicy text p → IsPolicy text q → p ≡ q
one_policy text p q h k =
    let found : Some h.schemas ≡ Some k.schemas = sym h.read ∙ k.read in
    let same : h.schemas ≡ k.schemas = cc in
    h.whole ∙ (ap policy_of same ∙ sym k.whole)
