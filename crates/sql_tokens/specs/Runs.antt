-- The bytes that are read as far as they go.
use Rattle.std.specs.Prelude.{ℕ, ◌≡◌, ◌≤◌, nat_eq, Bool, not, ◌==◌, List}
use Rattle.sql_tokens.specs.declared.runs.Run.{Run}
use Rattle.sql_tokens.specs.declared.runs.Run.TheVariants as run
use Rattle.sql_tokens.specs.Classes.{Starts, Stops, goes_on_word, is_digit, number_from}
use Rattle.sql_tokens.specs.Comments.{not_newline}

abbrev pub run_test : Run → ℕ → Bool
run_test run.Word = goes_on_word
run_test run.Digits = is_digit
run_test run.Line = not_newline
run_test (run.Inside quote) = λ c. not (c == quote)

-- digits number a parameter
pub record NumbersParameter (digits : List ℕ) (number : ℕ) : Type 0 where
  pub starts : Starts is_digit digits
  pub leads : Stops (nat_eq 48) digits
  pub is : number ≡ number_from 0 digits
  pub most : number ≤ 20480
