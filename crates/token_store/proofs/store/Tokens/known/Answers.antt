use Rattle.std.proofs.Common.{rules, ◌≡◌, ℕ, List, Some, sym, ap, subst, ◌∙◌}
use Rattle.token_rule.specs.Rule.{Want, IsTokenValue}
use Rattle.token_rule.specs.Entries.{Entry, entry_of}
use Rattle.token_store.proofs.Knowing.{found_value}
use Rattle.token_store.proofs.store.Tokens.known.Goals as goal

pub invariant_of-result : goal.invariant_of-result
invariant_of-result c =
    let e : Entry = c.in-Some.entry.now in
    let found : entry_of c.self.inside.map c.args.kind c.args.token ≡ Some e = search rules in
    let want : c.want-want.result.now ≡ e.want = search rules in
    let is : IsTokenValue e.want.kind e.want.plain = subst (λ (w : Want). IsTokenValue w.kind w.plain) want c.plain.ensures.is.value in
    let plain : e.want.plain ≡ c.in_ok-copied-in-Some.field-0 = sym (ap (λ (w : Want). w.plain) want) ∙ search rules in
    subst (λ (p : List ℕ). IsTokenValue c.args.kind p) plain (found_value c.self.inside.map c.args.kind c.args.token e found is)
