-- A file that is not had leaves what is held of all others.
use Rattle.ariadne_commands.proofs.linting.check_file.Goals as goal

pub returns-in-Err-Memory-clause-others : goal.returns-in-Err-Memory-clause-others
returns-in-Err-Memory-clause-others g c = λ q other. let none = rw c.in-Err-Memory.field-0-is at c.in-Err-Memory.ensures.step in none.1 q

pub returns-in-Err-Failed-clause-others : goal.returns-in-Err-Failed-clause-others
returns-in-Err-Failed-clause-others g c = λ q other. let none = rw c.in-Err-Failed.field-0-is at c.in-Err-Failed.ensures.step in none.1 q
