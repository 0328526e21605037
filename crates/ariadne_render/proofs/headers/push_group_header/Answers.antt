use Rattle.std.proofs.Common.{rules, append_assoc, ◌∷◌, [], ◌+◌, ◌++◌, OnOk, codes, if◌then◌else◌, sym}
use Rattle.std.proofs.lemmas.Result.{on_ok_weaker}
use Rattle.ariadne_color.specs.Colors.{painted}
use Rattle.ariadne_picture.specs.declared.cell.Glyph.TheVariants.{Hbar, Ltop, Lbox, Rbox, Lcross}
use Rattle.ariadne_picture.specs.declared.cell.Paint.TheVariants.{Margin}
use Rattle.ariadne_picture.specs.Canvas.{color_of}
use Rattle.ariadne_picture.specs.Pieces.{spaces, glyph_text}
use Rattle.ariadne_layout.specs.Snippets.{location_numbers}
use Rattle.ariadne_render.specs.Pages.{Adds}
use Rattle.ariadne_render.proofs.Drawn.{adds_same}
use Rattle.ariadne_render.proofs.HeaderBytes.{group_header_row}
use Rattle.ariadne_render.proofs.headers.push_group_header.Goals as goal

-- text after text
pub returns : goal.returns
returns g c =
    let v = c.args.snippet.now in
    let first = c.is_first-is_first.result in
    let name = c.name.result.now in
    let location = c.location.result in
    let page = c.args.pen.now.page in
    let set = page.switches.char_set in
    let chained : OnOk c.end_row.result (Adds c.args.pen.now c.end_row.new.self (spaces (page.number_width + 2)
    ++ painted (color_of page.palette Margin) (glyph_text set (if first then Ltop else Lcross))
    ++ painted (color_of page.palette Margin) (glyph_text set Hbar) ++ painted (color_of page.palette Margin) (glyph_text set Lbox)
    ++ (codes " " ++ name ++ codes ":" ++ location_numbers location ++ codes " ")
    ++ painted (color_of page.palette Margin) (glyph_text set Rbox) ++ 10 ∷ [])) =
    search (rules, append_assoc) in
    on_ok_weaker c.end_row.result
    (adds_same _ _ _ _ (group_header_row page.palette v.section page.number_width page.switches first name _ c.requires.switches
    (sym c.is_first-is_first.ensures) (sym c.name.ensures) (sym c.location.ensures)))
    chained
