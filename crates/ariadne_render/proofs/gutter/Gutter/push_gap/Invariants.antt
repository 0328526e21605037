-- so far the first columns are written
use Rattle.ariadne_picture.specs.declared.cell.Glyph.TheVariants.{VbarGap}
use Rattle.ariadne_render.specs.Pages.{Adds}
use Rattle.ariadne_render.specs.Gutters.{bars_ink, columns_bytes}
use Rattle.ariadne_render.proofs.gutter.Gutter.push_gap.Given as goal

abbrev pub invariant-loop-column : goal.invariant-loop-column
invariant-loop-column l = Adds l.fn.pen l.pen (columns_bytes l.fn.pen.page (bars_ink VbarGap l.fn.self) l.column)
