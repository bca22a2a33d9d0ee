-- Tokens alone, without a text around them.
use Rattle.std.proofs.Common.{◌≡◌, ℕ, Bool, true, false, sym, ap, ◌∙◌, refl, List}
use Rattle.std.specs.Prelude.{Some, None, Err}
use Rattle.sql_tokens.specs.declared.token.Token.{Token}
use Rattle.sql_tokens.specs.declared.token.Placed.{Placed}
use Rattle.sql_tree.specs.declared.statement.Statement.{Statement}
use Rattle.sql_tree.specs.Spelling.{tokens_of}
use Rattle.sql_tree.specs.Grammar.{text_tree}
use Rattle.sql_outcomes.specs.declared.refusal.SqlKind.{SqlKind}
use Rattle.sql_outcomes.specs.declared.refusal.SqlKind.TheVariants as kind
use Rattle.sql_outcomes.specs.declared.refusal.ParseFault.TheVariants as fault
use Rattle.sql_outcomes.specs.Outcome.{is_shallow}
use Rattle.sql_outcomes.specs.Outside.{outside_place}
use Rattle.sql_derivations.proofs.Wholes.{one_derivation}
use Rattle.sql_derivations.proofs.Outcomes.{no_misspelling, inside}
use Rattle.sql_parser.specs.Judging.{TokensSpell, TokensGive}

-- what is spelled is shallow or isn't
one_depth : (ts : List Token) (a b : Bool) (x y : Statement) → TokensSpell ts a x → TokensSpell ts b y → a ≡ b
one_depth ts a b x y h k =
    let by = one_derivation h.spells.by k.spells.by (sym h.spells.derives ∙ k.spells.derives) in
    let tree = h.spells.is ∙ ap text_tree by ∙ sym k.spells.is in
    sym h.depth ∙ (λ i. is_shallow (by i) (tree i)) ∙ k.depth

module _ (placed : List Placed) (tree : Statement) (s : TokensSpell (tokens_of placed) true tree) where
  pub none_outside : (place : ℕ) → outside_place placed ≡ Some place → ⊥
  none_outside place e = let both : None ≡ Some place = sym (inside placed tree s.spells) ∙ e in cc

  pub none_refused_as : (k : SqlKind) (place end : ℕ) → TokensGive placed None end (Err (fault.Refused (record { place = place; kind = k }))) → ⊥
  none_refused_as kind.TooLong place end h = h
  none_refused_as kind.OutsideProfile place end h = h
  none_refused_as kind.Syntax place end h = h.none (no_misspelling placed h.rest s.spells.by s.spells.derives h.fault) refl tree s.spells
  none_refused_as kind.TooDeep place end h = let both = one_depth (tokens_of placed) true false tree h.2.0 s h.2.1 in cc
