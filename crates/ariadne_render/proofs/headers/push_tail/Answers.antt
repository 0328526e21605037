use Rattle.std.proofs.Common.{rules, append_assoc, ◌∷◌, [], ◌++◌, OnOk}
use Rattle.std.proofs.lemmas.Result.{on_ok_weaker}
use Rattle.ariadne_color.specs.Escapes.{opened, closed}
use Rattle.ariadne_picture.specs.declared.cell.Glyph.TheVariants.{Hbar, Rbot}
use Rattle.ariadne_picture.specs.declared.cell.Paint.TheVariants.{Margin}
use Rattle.ariadne_picture.specs.Canvas.{color_of}
use Rattle.ariadne_picture.specs.Pieces.{glyph_text, repeated, tail_pieces}
use Rattle.ariadne_render.specs.Pages.{Adds}
use Rattle.ariadne_render.proofs.Drawn.{adds_same}
use Rattle.ariadne_render.proofs.HeaderBytes.{tail_row}
use Rattle.ariadne_render.proofs.headers.push_tail.Goals as goal

-- before another group it is the row below a header
pub returns-then-not-is_last : goal.returns-then-not-is_last
unfolding tail_pieces
returns-then-not-is_last c = rw c.if-not-is_last.true (search rules)

-- the last one is a stroke to a corner
pub returns : goal.returns
unfolding glyph_text
returns c =
    let page = c.args.pen.now.page in
    let set = page.switches.char_set in
    let chained : OnOk c.end_row.result (Adds c.args.pen.now c.end_row.new.self (opened (color_of page.palette Margin)
    ++ repeated page.number_width (glyph_text set Hbar) ++ glyph_text set Hbar ++ glyph_text set Hbar ++ glyph_text set Rbot
    ++ closed (color_of page.palette Margin) ++ 10 ∷ [])) =
    search (rules, append_assoc) in
    rw c.if-not-is_last.false
    (on_ok_weaker c.end_row.result (adds_same _ _ _ _ (tail_row page.palette set page.number_width)) chained)
