use Rattle.std.proofs.Common.{◌≡◌, ◌∷◌, [], ◌++◌, List, ℕ, length, ◌∙◌, append_assoc, w64, rules}
use Rattle.std.specs.Int.{to_le_bytes, to_be_bytes}
use Rattle.token_rule.specs.Rule.{kind_byte}
use Rattle.token_records.specs.Records.{consistent_byte}
use Rattle.token_records.proofs.record.head_of.Goals as goal

joined : (first o s t x x' x'' all : List ℕ) → x ≡ first → x' ≡ x ++ o → x'' ≡ x' ++ s → all ≡ x'' ++ t → all ≡ first ++ (o ++ (s ++ t))
joined first o s t x x' x'' all e0 e1 e2 e3 = rw (e3, e2, e1, e0) (append_assoc (first ++ o) s t ∙ append_assoc first o (s ++ t))

pub returns : goal.returns
returns c =
    let want = c.args.want.now in
    joined (kind_byte want.kind ∷ (consistent_byte want.consistent ∷ (length want.owner ∷ []))) want.owner (to_le_bytes w64 c.args.serial) (to_be_bytes w64 c.args.token)
    c.in_ok-head.head.items c.extend_from_slice.new.self.items c.extend_from_slice-2.new.self.items c.from_vec.result (search rules) (search rules) (search rules) (search rules)
