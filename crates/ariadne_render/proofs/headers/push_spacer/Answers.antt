use Rattle.std.proofs.Common.{rules, append_assoc, ◌∷◌, [], ◌+◌, ◌++◌, OnOk}
use Rattle.std.proofs.lemmas.Result.{on_ok_weaker}
use Rattle.ariadne_color.specs.Colors.{painted}
use Rattle.ariadne_picture.specs.declared.cell.Glyph.TheVariants.{Vbar}
use Rattle.ariadne_picture.specs.declared.cell.Paint.TheVariants.{Margin}
use Rattle.ariadne_picture.specs.Canvas.{color_of}
use Rattle.ariadne_picture.specs.Pieces.{spaces, glyph_text}
use Rattle.ariadne_render.specs.Pages.{Adds}
use Rattle.ariadne_render.proofs.Drawn.{adds_same}
use Rattle.ariadne_render.proofs.HeaderBytes.{spacer_row}
use Rattle.ariadne_render.proofs.headers.push_spacer.Goals as goal

-- text after text
pub returns : goal.returns
returns c =
    let page = c.args.pen.now.page in
    let chained : OnOk c.end_row.result (Adds c.args.pen.now c.end_row.new.self
    (spaces (page.number_width + 2) ++ painted (color_of page.palette Margin) (glyph_text page.switches.char_set Vbar) ++ 10 ∷ [])) =
    search (rules, append_assoc) in
    on_ok_weaker c.end_row.result (adds_same _ _ _ _ (spacer_row page.palette page.switches.char_set page.number_width)) chained
