use Rattle.ariadne_snippets.proofs.Covering.{covers_run}
use Rattle.ariadne_snippets.proofs.quoted.Quoted.mark_of.Goals as goal

-- it covers what the run does
pub returns-clause-cover : goal.returns-clause-cover
returns-clause-cover c = covers_run c.args.self.now c.args.run.now _ c.requires c.point_at.ensures c.point_behind.ensures.point
