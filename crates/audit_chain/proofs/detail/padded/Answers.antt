use Rattle.std.proofs.Common.{ℕ, List, ◌++◌, ◌∙◌, ap, drop, length, replicate}
use Rattle.std.proofs.lemmas.List.{drop-replicate}
use Rattle.audit_chain.proofs.detail.padded.Goals as goal

pub returns : goal.returns
returns c =
    let n = length c.args.text.now in
    ap (λ (xs : List ℕ). xs ++ drop n (replicate 64 0)) c.copy_from_slice.ensures.after ∙ ap (λ (ys : List ℕ). c.args.text.now ++ ys) (drop-replicate n 64 0)
