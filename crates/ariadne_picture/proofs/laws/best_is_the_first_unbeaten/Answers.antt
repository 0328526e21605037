use Rattle.ariadne_picture.proofs.Labels.Orders.{best-first, best-none}
use Rattle.ariadne_picture.proofs.laws.best_is_the_first_unbeaten.Goals as goal

pub returns-clause-some : goal.returns-clause-some
returns-clause-some g c beats xs b o e = best-first beats xs b o e

pub returns-clause-none : goal.returns-clause-none
returns-clause-none g c beats xs e = best-none beats xs e
