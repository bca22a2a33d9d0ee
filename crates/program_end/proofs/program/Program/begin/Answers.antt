use Rattle.program_end.proofs.Asking.{other_help, other_version}
use Rattle.program_end.proofs.program.Program.begin.Goals as goal

pub returns-in-None-clause-no_help : goal.returns-in-None-clause-no_help
returns-in-None-clause-no_help g c h = other_help _ (c.answer.ensures.0 c.in-None.is) ((rw c.deref.ensures.value at c.asked_by.ensures.help.1) h)

pub returns-in-None-clause-no_version : goal.returns-in-None-clause-no_version
returns-in-None-clause-no_version g c h = other_version _ (c.answer.ensures.0 c.in-None.is) ((rw c.deref.ensures.value at c.asked_by.ensures.version.1) h)
