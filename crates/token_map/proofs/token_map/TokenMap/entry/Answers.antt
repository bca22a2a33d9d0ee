use Rattle.token_map.proofs.token_map.TokenMap.entry.Goals as goal
use Rattle.std.proofs.Common.{◌≡◌, ◌∙◌, None, Some, sym, ap, arith}
use Rattle.std.specs.Option.{option_copied}
use Rattle.token_rule.specs.Rule.{kind_byte}
use Rattle.token_rule.specs.Entries.{entry_of, is_token}
use Rattle.token_map.specs.Index.{place_of}
use Rattle.token_map.proofs.Places.{StandsAt, find_none, find_some}

pub returns-in_err-place : goal.returns-in_err-place
returns-in_err-place c =
    let none : place_of (is_token c.args.kind c.args.token) c.self.inside.entries.items ≡ None = sym (c.self.invariant.places (kind_byte c.args.kind) c.args.token) ∙ sym c.get.ensures ∙ c.in_err-place.was in
    ap option_copied c.from_residual.ensures ∙ sym (find_none (is_token c.args.kind c.args.token) c.self.inside.entries.items none) ∙ ap (λ l. entry_of l c.args.kind c.args.token) c.self.view_is

pub index-requires : goal.index-requires
index-requires c =
    let here : place_of (is_token c.args.kind c.args.token) c.self.inside.entries.items ≡ Some c.in_ok-place.place = sym (c.self.invariant.places (kind_byte c.args.kind) c.args.token) ∙ sym c.get.ensures ∙ c.in_ok-place.was in
    let at : StandsAt (is_token c.args.kind c.args.token) c.self.inside.entries.items c.in_ok-place.place = find_some (is_token c.args.kind c.args.token) c.self.inside.entries.items c.in_ok-place.place here in
    omega (arith, at.within)

pub returns : goal.returns
returns c =
    let here : place_of (is_token c.args.kind c.args.token) c.self.inside.entries.items ≡ Some c.in_ok-place.place = sym (c.self.invariant.places (kind_byte c.args.kind) c.args.token) ∙ sym c.get.ensures ∙ c.in_ok-place.was in
    let at : StandsAt (is_token c.args.kind c.args.token) c.self.inside.entries.items c.in_ok-place.place = find_some (is_token c.args.kind c.args.token) c.self.inside.entries.items c.in_ok-place.place here in
    ap Some c.index.ensures ∙ sym (at.here c.index.result.now) ∙ ap (λ l. entry_of l c.args.kind c.args.token) c.self.view_is
