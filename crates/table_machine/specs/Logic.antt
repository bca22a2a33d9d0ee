-- Three-valued logic: None is unknown.
use Rattle.std.specs.Prelude.{Bool, true, false, not, List, [], ◌∷◌, Option, Some, None}
use Rattle.std.specs.declared.cmp.Ordering.{Ordering}
use Rattle.std.specs.declared.cmp.Ordering.TheVariants.{Less, Equal, Greater}
use Rattle.sql_tree.specs.declared.condition.Op.{Op}
use Rattle.sql_tree.specs.declared.condition.Op.TheVariants as op

abbrev pub and : Option Bool → Option Bool → Option Bool
and (Some false) b = Some false
and (Some true) b = b
and None (Some false) = Some false
and None (Some true) = None
and None None = None

abbrev pub or : Option Bool → Option Bool → Option Bool
or (Some true) b = Some true
or (Some false) b = b
or None (Some true) = Some true
or None (Some false) = None
or None None = None

abbrev pub negated : Option Bool → Option Bool
negated None = None
negated (Some b) = Some (not b)

abbrev pub all_of : List (Option Bool) → Option Bool
all_of [] = Some true
all_of (t ∷ ts) = and t (all_of ts)

abbrev pub any_of : List (Option Bool) → Option Bool
any_of [] = Some false
any_of (t ∷ ts) = or t (any_of ts)

-- a row is kept only where the condition is true
abbrev pub is_true : Option Bool → Bool
is_true (Some b) = b
is_true None = false

abbrev pub holds : Op → Ordering → Bool
holds op.Eq Less = false
holds op.Eq Equal = true
holds op.Eq Greater = false
holds op.Ne Less = true
holds op.Ne Equal = false
holds op.Ne Greater = true
holds op.Lt Less = true
holds op.Lt Equal = false
holds op.Lt Greater = false
holds op.Le Less = true
holds op.Le Equal = true
holds op.Le Greater = false
holds op.Gt Less = false
holds op.Gt Equal = false
holds op.Gt Greater = true
holds op.Ge Less = false
holds op.Ge Equal = true
holds op.Ge Greater = true
