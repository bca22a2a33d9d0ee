-- What is printed.
use Rattle.std.specs.Prelude.{ℕ, List, [], ◌++◌, length, codes, Bool, true, false, if◌then◌else◌}
use Rattle.std.specs.Fmt.{decimal}
use Rattle.audit_chain.specs.Findings.{Finding}
use Rattle.audit_chain.specs.Verdicts.{is_closed}

abbrev pub closing_word : Bool → List ℕ
closing_word closed = if closed then codes " closed\n" else codes " open\n"

-- one line that tells the finding, and nothing where the log is too long
abbrev pub printed : Finding → List ℕ
printed (Finding.Whole lines) = codes "valid " ++ decimal (length lines) ++ closing_word (is_closed lines)
printed (Finding.Broken line) = codes "broken " ++ decimal line ++ codes "\n"
printed (Finding.Long line) = codes "long " ++ decimal line ++ codes "\n"
printed Finding.Spent = []
