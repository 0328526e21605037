-- so far the first lines are written
use Rattle.std.proofs.Common.{length, map}
use Rattle.ariadne_base.specs.Locations.{upto}
use Rattle.ariadne_picture.specs.Rows.{piece}
use Rattle.ariadne_render.specs.AsideKinds.{aside_of}
use Rattle.ariadne_render.specs.RowTexts.{rows_of}
use Rattle.ariadne_render.specs.Writers.{WritesRows}
use Rattle.ariadne_render.proofs.asides.push_lines.Given as goal

abbrev pub invariant-loop-index : goal.invariant-loop-index
invariant-loop-index g l =
    WritesRows l.fn.writer l.writer (rows_of l.fn.writer.pen.page l.snippet (map (piece (aside_of l.kind) l.number) (upto (length l.yielded))))
