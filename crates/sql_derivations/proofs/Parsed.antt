-- The canonical text is parsed to its statement.
use Rattle.std.proofs.Common.{◌≡◌, ℕ, ◌≤◌, true, List, length, refl, ◌∙◌, arith}
use Rattle.std.specs.Prelude.{nat_le, ◌&&◌, Ok}
use Rattle.std.proofs.lemmas.Bool.{le-leb}
use Rattle.sql_tree.specs.declared.statement.Statement.{Statement}
use Rattle.sql_tree.specs.Spelling.{TextSpells}
use Rattle.sql_tree.specs.Shapes.{printed}
use Rattle.sql_tree.specs.Canonical.{canon}
use Rattle.sql_tree.specs.Depths.{text_open, statement_depth}
use Rattle.sql_tree.specs.Laws.{IsStatement}
use Rattle.sql_tree.proofs.Wholes.{tokens_spell, spelled_shallow}
use Rattle.sql_tree.proofs.Lexed.{read_whole}
use Rattle.sql_tree.proofs.Reading.{good_statement}
use Rattle.sql_outcomes.specs.Outcome.{IsOutcome, SpelledAs, is_shallow}
use Rattle.sql_derivations.proofs.Outcomes.{same_spelled}

both : (a b : ℕ) → a ≤ 128 → b ≤ 64 → (nat_le a 128 && nat_le b 64) ≡ true
both a b h k = λ i. le-leb a 128 h i && le-leb b 64 k i

pub canonical_spelled : (tree : Statement) → IsStatement tree → statement_depth tree ≤ 64 → SpelledAs (canon tree) true tree
canonical_spelled tree h deep =
    let r = read_whole (printed tree) h.possible (good_statement tree) in
    let s = tokens_spell tree h in
    let low = spelled_shallow tree h in
    record {
      placed = r.placed;
      lexes = r.lexes;
      spells = record { by = s.by; derives = r.is ∙ s.derives; is = s.is; qualified = s.qualified; gapless = s.gapless; settable = s.settable };
      depth = both (text_open s.by) (statement_depth tree) (omega arith) deep;
    }

pub canonical_text_is_parsed : (tree : Statement) → IsStatement tree → statement_depth tree ≤ 64 → (limit : ℕ) → length (canon tree) ≤ limit → IsOutcome (canon tree) limit (Ok tree)
canonical_text_is_parsed tree h deep limit fits = (fits, canonical_spelled tree h deep)

pub one_statement : (text : List ℕ) (a b : Statement) → TextSpells text a → TextSpells text b → a ≡ b
one_statement text a b s u =
    (same_spelled text (is_shallow s.spells.by a) (is_shallow u.spells.by b) a b
    (record { placed = s.placed; lexes = s.lexes; spells = s.spells; depth = refl }) (record { placed = u.placed; lexes = u.lexes; spells = u.spells; depth = refl })).0
