-- The lines so far are written.
use Rattle.std.proofs.Common.{◌-◌}
use Rattle.std.specs.List.{range_with_len}
use Rattle.ariadne_picture.specs.Lists.{joined}
use Rattle.ariadne_picture.specs.Rows.{line_rows}
use Rattle.ariadne_layout.specs.Snippets.{sheet_in}
use Rattle.ariadne_render.specs.Pages.{DrawsRows}
use Rattle.ariadne_render.specs.RowTexts.{rows_of}
use Rattle.ariadne_render.specs.DrawnLines.{IsAt}
use Rattle.ariadne_render.proofs.lines.push_context_lines.Given as goal

abbrev pub invariant-loop-line : goal.invariant-loop-line
invariant-loop-line g l = record {
  at : IsAt l.snippet l.line l.writer l.lists;
  drawn : DrawsRows l.fn.writer.pen l.writer.pen
      (rows_of l.fn.writer.pen.page l.snippet (joined (line_rows (sheet_in l.snippet)) (range_with_len l.first (l.line - l.first))));
}
