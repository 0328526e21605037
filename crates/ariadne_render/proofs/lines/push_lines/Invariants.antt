-- The lines so far are written: the next event is the first that is not above the line, and the lines near those above are told.
use Rattle.std.proofs.Common.{◌+◌, ◌-◌, length}
use Rattle.std.specs.List.{range_with_len}
use Rattle.ariadne_picture.specs.Groups.{group_end_line}
use Rattle.ariadne_picture.specs.Lists.{joined}
use Rattle.ariadne_picture.specs.Ranks.{first_line}
use Rattle.ariadne_picture.specs.Rows.{line_rows}
use Rattle.ariadne_layout.specs.Snippets.{sheet_in}
use Rattle.ariadne_render.specs.Pages.{DrawsRows}
use Rattle.ariadne_render.specs.RowTexts.{rows_of}
use Rattle.ariadne_render.specs.DrawnLines.{IsAt}
use Rattle.ariadne_render.proofs.LinesWalk.{IsWalked}
use Rattle.ariadne_render.proofs.lines.push_lines.Given as goal

abbrev pub invariant-loop-next : goal.invariant-loop-next
invariant-loop-next g l = record {
  at : IsAt l.snippet l.line l.writer l.lists;
  walked : IsWalked (sheet_in l.snippet) (length (sheet_in l.snippet).lines) l.line l.near l.event l.writer.gutter;
  drawn : DrawsRows l.fn.writer.pen l.writer.pen (rows_of l.fn.writer.pen.page l.snippet (joined (line_rows (sheet_in l.snippet))
      (range_with_len (first_line (sheet_in l.snippet)) (l.line - first_line (sheet_in l.snippet)))));
}

abbrev pub decreases-loop-next : goal.decreases-loop-next
decreases-loop-next g l = group_end_line (sheet_in l.snippet).labels + 1 - l.line
