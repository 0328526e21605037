-- The number that is parsed is the one that the variable holds.
use Rattle.std.proofs.Common.{rules, refl, Some}
use Rattle.ariadne_show.proofs.environment.number_in.Goals as goal

pub returns-in-Ok : goal.returns-in-Ok
returns-in-Ok c = (Some c.in-Ok.number, search rules, refl)
