-- What is made of the parts that are read. A condition in which too many parentheses and NOTs are open at once is not kept.
use Rattle.std.specs.Prelude.{ℕ, nat_le, Bool, true, false, if◌then◌else◌, List, [], ◌∷◌, map, Option, Some, None, option_map}
use Rattle.sql_tree.specs.declared.condition.Cond as trees
use Rattle.sql_tree.specs.declared.condition.Cond.TheVariants as tree
use Rattle.sql_tree.specs.declared.condition.Operand.{Operand}
use Rattle.sql_tree.specs.declared.statement.Statement.{Statement}
use Rattle.sql_tree.specs.declared.statement.Statement.TheVariants as statement
use Rattle.sql_tree.specs.Parts.{Spelled, Value, value_operand}
use Rattle.sql_tree.specs.Conditions.{Cond, cond_tree, cond_open}
use Rattle.sql_tree.specs.Depths.{filter_open}
use Rattle.sql_tree.specs.Grammar.{Some1, all_of, Bound, Select, Body, select, insert, update, delete, set, Text, items_tree, key_tree, pair_tree, setting_operand}
use Rattle.sql_reading.specs.declared.made.Nested.{Nested}
use Rattle.sql_reading.specs.declared.made.Filter.{Filter}
use Rattle.sql_reading.specs.declared.made.Reading.{Reading}

abbrev pub kept : Cond → trees.Cond
kept d = if nat_le (cond_open d) 128 then cond_tree d else tree.And []

abbrev pub nested : Cond → Nested
nested d = record { cond = kept d; deepest = cond_open d }

abbrev pub filter : Option Cond → Filter
filter cond = record { cond = option_map kept cond; deepest = filter_open cond }

abbrev pub names_of : Some1 Spelled → List (List ℕ)
names_of l = map (λ (n : Spelled). n.name) (all_of l)

abbrev pub row_of : Some1 Value → List Operand
row_of r = map value_operand (all_of r)

abbrev pub reading : Body → Reading
reading (select q) = record {
  statement = statement.Select q.table.name (items_tree q.items) (option_map kept q.cond) (elim (q.order) [ None ↦ [] | Some o ↦ map key_tree (all_of o) ])
      (option_map (λ (b : Bound). b.number) q.limit) (option_map (λ (b : Bound). b.number) q.offset);
  deepest = filter_open q.cond;
}
reading (insert table names rows) = record { statement = statement.Insert table.name (option_map names_of names) (map row_of (all_of rows)); deepest = 0 }
reading (update table pairs cond) = record { statement = statement.Update table.name (map pair_tree (all_of pairs)) (option_map kept cond); deepest = filter_open cond }
reading (delete table cond) = record { statement = statement.Delete table.name (option_map kept cond); deepest = filter_open cond }
reading (set name to value) = record { statement = statement.Set name.name (setting_operand value); deepest = 0 }

abbrev pub whole_reading : Text → Reading
whole_reading x = elim (x.body) [ None ↦ record { statement = statement.Empty; deepest = 0 } | Some b ↦ reading b ]
