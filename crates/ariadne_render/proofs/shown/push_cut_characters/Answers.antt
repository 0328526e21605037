use Rattle.std.proofs.Common.{◌≡◌, ◌∙◌, ℕ, [], sym, ap}
use Rattle.std.proofs.lemmas.Result.{on_ok_weaker}
use Rattle.ariadne_picture.specs.declared.cell.Paint.{Paint}
use Rattle.ariadne_layout.specs.Tables.{position_paint, shown_at}
use Rattle.ariadne_render.specs.Pages.{PageFields}
use Rattle.ariadne_render.proofs.ShownRows.{draws_recolored, no_colors, tabs_written}
use Rattle.ariadne_render.proofs.shown.push_cut_characters.Goals as goal

-- with colours the stretches tell them
pub returns-then-is_colored-clause-tabs : goal.returns-then-is_colored-clause-tabs
returns-then-is_colored-clause-tabs c =
    let pen = c.args.pen.now in
    on_ok_weaker c.push_cut.result
    (tabs_written pen c.push_cut.new.pen pen.page.switches c.args.layout.now (λ k. position_paint (shown_at c.args.paints.now k)))
    c.push_cut.ensures

-- without them none is asked for
pub returns-else-is_colored-clause-drawn : goal.returns-else-is_colored-clause-drawn
returns-else-is_colored-clause-drawn c =
    let pen = c.args.pen.now in
    let lit : c.is_colored.result ≡ pen.page.palette.is_on = c.is_colored.ensures ∙ ap (λ (p : PageFields). p.palette.is_on) c.page.ensures in
    let off = sym lit ∙ c.if-is_colored.false in
    let blank : ℕ → Paint = λ k. position_paint (shown_at [] k) in
    let paint : ℕ → Paint = λ k. position_paint (shown_at c.args.paints.now k) in
    on_ok_weaker c.push_cut-else-is_colored.result
    (draws_recolored pen c.push_cut-else-is_colored.new.pen pen.page.switches c.args.layout.now blank paint
    (λ k l. no_colors pen.page.palette (blank k) (paint k) off))
    c.push_cut-else-is_colored.ensures

pub returns-else-is_colored-clause-tabs : goal.returns-else-is_colored-clause-tabs
returns-else-is_colored-clause-tabs c =
    let pen = c.args.pen.now in
    on_ok_weaker c.push_cut-else-is_colored.result
    (tabs_written pen c.push_cut-else-is_colored.new.pen pen.page.switches c.args.layout.now (λ k. position_paint (shown_at [] k)))
    c.push_cut-else-is_colored.ensures
