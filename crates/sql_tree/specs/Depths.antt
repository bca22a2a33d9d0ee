-- How deep a statement goes: what is open at once in its text, and how its nodes stand in one another.
use Rattle.std.specs.Prelude.{ℕ, Option, Some, None}
use Rattle.sql_tree.specs.declared.condition.Cond as trees
use Rattle.sql_tree.specs.declared.statement.Statement.{Statement}
use Rattle.sql_tree.specs.declared.statement.Statement.TheVariants as statement
use Rattle.sql_tree.specs.Conditions.{Cond, cond_open}
use Rattle.sql_tree.specs.Grammar.{Body, select, insert, update, delete, set, Text}
use Rattle.sql_tree.specs.Shapes.{node_depth}

abbrev pub filter_open : Option Cond → ℕ
filter_open None = 0
filter_open (Some d) = cond_open d

abbrev pub body_open : Body → ℕ
body_open (select q) = filter_open q.cond
body_open (insert table names rows) = 0
body_open (update table pairs cond) = filter_open cond
body_open (delete table cond) = filter_open cond
body_open (set name to value) = 0

-- how many parentheses and NOTs of the condition are open at once, at most
abbrev pub text_open : Text → ℕ
text_open x = elim (x.body) [ None ↦ 0 | Some b ↦ body_open b ]

abbrev pub filter_depth : Option trees.Cond → ℕ
filter_depth None = 0
filter_depth (Some c) = node_depth c

-- how deep the nodes And, Or and Not stand
abbrev pub statement_depth : Statement → ℕ
statement_depth (statement.Select table items cond order limit offset) = filter_depth cond
statement_depth (statement.Update table sets cond) = filter_depth cond
statement_depth (statement.Delete table cond) = filter_depth cond
statement_depth _ = 0
