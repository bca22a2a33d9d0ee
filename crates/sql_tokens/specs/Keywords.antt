-- The reserved words.
use Rattle.std.specs.Prelude.{ℕ, nat_eq, if◌then◌else◌, List, codes, Option, Some, None}
use Rattle.std.specs.Cmp.Lexicographic.{pointwise}
use Rattle.sql_tokens.specs.declared.keyword.Keyword.{Keyword}
use Rattle.sql_tokens.specs.declared.keyword.Keyword.TheVariants as k

abbrev pub keyword_of : List ℕ → Option Keyword
keyword_of w =
    if pointwise nat_eq w (codes "select") then Some k.Select else (if pointwise nat_eq w (codes "from") then Some k.From else (if pointwise nat_eq w (codes "where") then Some k.Where else (if pointwise nat_eq w (codes "and") then Some k.And else (if pointwise nat_eq w (codes "or") then Some k.Or else (if pointwise nat_eq w (codes "not") then Some k.Not else (if pointwise nat_eq w (codes "in") then Some k.In else (if pointwise nat_eq w (codes "is") then Some k.Is else (if pointwise nat_eq w (codes "null") then Some k.Null else (if pointwise nat_eq w (codes "order") then Some k.Order else (if pointwise nat_eq w (codes "by") then Some k.By else (if pointwise nat_eq w (codes "asc") then Some k.Asc else (if pointwise nat_eq w (codes "desc") then Some k.Desc else (if pointwise nat_eq w (codes "limit") then Some k.Limit else (if pointwise nat_eq w (codes "offset") then Some k.Offset else (if pointwise nat_eq w (codes "insert") then Some k.Insert else (if pointwise nat_eq w (codes "into") then Some k.Into else (if pointwise nat_eq w (codes "values") then Some k.Values else (if pointwise nat_eq w (codes "update") then Some k.Update else (if pointwise nat_eq w (codes "set") then Some k.Set else (if pointwise nat_eq w (codes "delete") then Some k.Delete else (if pointwise nat_eq w (codes "as") then Some k.As else (if pointwise nat_eq w (codes "to") then Some k.To else None))))))))))))))))))))))
