-- The rows of the labels so far are written, and bars and table are those of the next.
use Rattle.std.proofs.Common.{take}
use Rattle.std.specs.List.{enumerate_from}
use Rattle.ariadne_picture.specs.Lists.{joined}
use Rattle.ariadne_picture.specs.Rows.{label_rows}
use Rattle.ariadne_layout.specs.Snippets.{labels_at}
use Rattle.ariadne_render.specs.Pages.{DrawsRows}
use Rattle.ariadne_render.specs.RowTexts.{rows_of}
use Rattle.ariadne_render.specs.Writers.{IsAtRank}
use Rattle.ariadne_render.proofs.below.push_rows_below.Given as goal

abbrev pub invariant-loop-rank : goal.invariant-loop-rank
invariant-loop-rank g l = record {
  at : IsAtRank l.shown l.rank l.writer l.table;
  drawn : DrawsRows l.fn.writer.pen l.writer.pen (rows_of l.fn.writer.pen.page l.shown.snippet
      (joined (label_rows l.fn.writer.pen.page.switches.compact l.shown.line) (take l.rank (enumerate_from 0 (labels_at l.shown)))));
}
