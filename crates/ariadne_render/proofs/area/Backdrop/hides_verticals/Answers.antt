use Rattle.ariadne_render.proofs.SeenInks.{level_hides}
use Rattle.ariadne_render.proofs.area.Backdrop.hides_verticals.Goals as goal

-- a horizontal for which they have gaps
pub returns-in-Level : goal.returns-in-Level
returns-in-Level c = λ on. level_hides c.args.self.now c.in-Level.position c.in-Level.cross_gap c.in-Level.is on
