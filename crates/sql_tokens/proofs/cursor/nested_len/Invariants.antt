use Rattle.std.proofs.Common.{◌≡◌, ◌≤◌, ◌+◌, ◌-◌, length, drop}
use Rattle.sql_tokens.specs.Comments.{after_comments}
use Rattle.sql_tokens.proofs.cursor.nested_len.Given as goal

abbrev pub invariant-bytes : goal.invariant-bytes
invariant-bytes l = record {
  same : after_comments l.text 1 ≡ after_comments (drop l.at l.text) l.depth;
  within : l.at ≤ length l.text;
  least : 1 ≤ l.depth;
  most : l.depth ≤ l.at + 1;
}

abbrev pub decreases-bytes : goal.decreases-bytes
decreases-bytes l = length l.text - l.at
