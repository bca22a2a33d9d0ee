use Rattle.token_map.proofs.token_map.TokenMap.free_number.Goals as goal
use Rattle.std.proofs.Common.{◌≡◌, Option, None, Some, true, false, refl, ◌∙◌, sym, ap, Bor}
use Rattle.std.specs.Option.{is_some, option_copied}
use Rattle.token_rule.specs.Entries.{is_taken}
use Rattle.token_map.proofs.Numbers.{goes_on, fewer, ends, taken_is}

copied_some : {X : Type 0} (r : Option (Bor X)) → is_some (option_copied r) ≡ is_some r
copied_some None = refl
copied_some (Some x) = refl

pub taken-smaller : goal.taken-smaller
taken-smaller c =
    let taken : is_taken c.args.self.now c.args.kind c.taken.number ≡ true = taken_is c.args.self.now c.args.kind c.taken.number ∙ ap is_some (sym c.entry.ensures) ∙ copied_some c.entry.result ∙ sym c.is_some.ensures ∙ c.taken-test.true in
    fewer c.args.self.now c.args.kind c.args.start c.taken.number c.next_number-number.result c.requires.within c.requires.room c.taken.invariant taken c.next_number-number.ensures.next

pub taken-preserved : goal.taken-preserved
taken-preserved c =
    let taken : is_taken c.args.self.now c.args.kind c.taken.number ≡ true = taken_is c.args.self.now c.args.kind c.taken.number ∙ ap is_some (sym c.entry.ensures) ∙ copied_some c.entry.result ∙ sym c.is_some.ensures ∙ c.taken-test.true in
    goes_on c.args.self.now c.args.kind c.args.start c.taken.number c.next_number-number.result c.requires.within c.requires.room c.taken.invariant taken c.next_number-number.ensures.next

pub returns-clause-first : goal.returns-clause-first
returns-clause-first c =
    let free : is_taken c.args.self.now c.args.kind c.taken.number ≡ false = taken_is c.args.self.now c.args.kind c.taken.number ∙ ap is_some (sym c.entry.ensures) ∙ copied_some c.entry.result ∙ sym c.is_some.ensures ∙ c.taken-test.false in
    ends c.args.self.now c.args.kind c.args.start c.taken.number c.taken.invariant free
