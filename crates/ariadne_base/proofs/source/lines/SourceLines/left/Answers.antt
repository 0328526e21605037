use Rattle.std.proofs.Common.{length, ap, arith}
use Rattle.ariadne_base.proofs.StartLemmas.{length-extents}
use Rattle.ariadne_base.proofs.source.lines.SourceLines.left.Goals as goal

-- there is a line between each two starts
pub returns : goal.returns
returns c =
    omega (arith, ap length c.self.view_is, length-extents c.self.inside.rest.now, c.saturating_sub.ensures)
