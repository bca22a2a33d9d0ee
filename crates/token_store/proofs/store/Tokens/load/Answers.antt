use Rattle.std.proofs.Common.{◌≡◌, ℕ, suc, ◌+◌, ◌<◌, List, [], ◌∷◌, ◌++◌, length, take, drop, get_or, true, false, sym, ap, subst, ◌∙◌, arith, rules}
use Rattle.token_store.specs.Stores.{Store}
use Rattle.token_store.specs.Loading.{Loads}
use Rattle.token_store.proofs.Loads.{loads_more, parts_at, take_more, took, left_out}
use Rattle.token_store.proofs.store.Tokens.load.Goals as goal

pub returns-then-not-branch-clause-bad : goal.returns-then-not-branch-clause-bad
returns-then-not-branch-clause-bad g c index is =
    let value : c.as_slice.result.now ≡ get_or c.args.pieces.now c.loop-index.index c.index-pieces-index.result = c.as_slice.ensures ∙ c.index-pieces-index.is in
    let within : c.loop-index.index < length c.args.pieces.now = search rules in
    let not_taken : c.in_ok-take.field-0 ≡ false = search rules in
    record {
      before = take c.loop-index.index c.args.pieces.now;
      piece = c.as_slice.result.now;
      behind = drop (suc c.loop-index.index) c.args.pieces.now;
      parts = parts_at c.args.pieces.now c.loop-index.index c.index-pieces-index.result within ∙ ap (λ (p : List ℕ). take c.loop-index.index c.args.pieces.now ++ p ∷ drop (suc c.loop-index.index) c.args.pieces.now) (sym value);
      place = search rules;
      reached = c.loop-index.tokens;
      loads = c.loop-index.invariant;
      bad = left_out (g.A.Aead.sealed c.args.aead.now) c.loop-index.tokens c.take.new.self c.as_slice.result.now c.in_ok-take.field-0 not_taken c.in_ok-take.ensures;
    }

pub loop-index-preserved : goal.loop-index-preserved
loop-index-preserved g c =
    let sealed = g.A.Aead.sealed c.args.aead.now in
    let value : c.as_slice.result.now ≡ get_or c.args.pieces.now c.loop-index.index c.index-pieces-index.result = c.as_slice.ensures ∙ c.index-pieces-index.is in
    let within : c.loop-index.index < length c.args.pieces.now = search rules in
    let taken : c.in_ok-take.field-0 ≡ true = search rules in
    let next = took sealed c.loop-index.tokens c.take.new.self c.as_slice.result.now c.in_ok-take.field-0 taken c.in_ok-take.ensures in
    let start : Store = record { token_key = c.args.token_key; store_key = c.args.store_key; limit = c.args.limit; entries = [] } in
    let more = loads_more sealed start c.loop-index.tokens c.take.new.self (take c.loop-index.index c.args.pieces.now) c.as_slice.result.now c.loop-index.invariant next in
    let place : suc c.loop-index.index ≡ c.loop-index.index + 1 = omega arith in
    let same : take c.loop-index.index c.args.pieces.now ++ c.as_slice.result.now ∷ [] ≡ take (c.loop-index.index + 1) c.args.pieces.now =
    ap (λ (p : List ℕ). take c.loop-index.index c.args.pieces.now ++ p ∷ []) value ∙ sym (take_more c.args.pieces.now c.loop-index.index c.index-pieces-index.result within) ∙ ap (λ (n : ℕ). take n c.args.pieces.now) place in
    subst (λ (ps : List (List ℕ)). Loads sealed start ps c.take.new.self) same more
