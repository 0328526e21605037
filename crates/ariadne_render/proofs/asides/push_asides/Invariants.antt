-- so far the rows of the first texts are written
use Rattle.std.proofs.Common.{take}
use Rattle.std.specs.List.{enumerate_from}
use Rattle.ariadne_picture.specs.Lists.{joined}
use Rattle.ariadne_picture.specs.Pieces.{aside_texts}
use Rattle.ariadne_picture.specs.Rows.{aside_rows}
use Rattle.ariadne_render.specs.AsideKinds.{aside_of}
use Rattle.ariadne_render.specs.RowTexts.{rows_of}
use Rattle.ariadne_render.specs.Writers.{WritesRows}
use Rattle.ariadne_render.proofs.asides.push_asides.Given as goal

abbrev pub invariant-loop-index : goal.invariant-loop-index
invariant-loop-index g l =
    WritesRows l.fn.writer l.writer (rows_of l.fn.writer.pen.page l.snippet (joined (aside_rows l.fn.writer.pen.page.switches.compact (aside_of l.kind))
    (take l.index (enumerate_from 0 (aside_texts l.snippet.texts (aside_of l.kind))))))
