-- so far the first columns are written, but for the last cells of the horizontal
use Rattle.std.proofs.Common.{◌*◌, ◌≤◌}
use Rattle.ariadne_picture.specs.declared.cell.Glyph.TheVariants.{Hbar}
use Rattle.ariadne_render.specs.Gutters.{columns_bytes, margin_row_ink}
use Rattle.ariadne_render.proofs.GutterLevels.{Owes, run_bytes}
use Rattle.ariadne_render.proofs.gutter.Gutter.push_margin_row.Given as goal

abbrev pub invariant-loop-column : goal.invariant-loop-column
invariant-loop-column l = record {
  written : Owes l.fn.pen l.pen (run_bytes l.fn.self.page Hbar l.paint l.level) (columns_bytes l.fn.self.page (margin_row_ink l.fn.self l.margin) l.column);
  few : l.level ≤ 2 * l.column;
}
