use Rattle.std.specs.Prelude.{Some}
use Rattle.turnstile.proofs.stile.Turnstile.join.Given as goal

-- the opening state, for the proof alone
abbrev pub ghosts-settle : goal.ghosts-settle
ghosts-settle g a = record { opening = Some a.table.now.key.value; ticket = 0 }
