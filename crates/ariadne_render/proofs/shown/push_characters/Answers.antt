use Rattle.std.proofs.Common.{◌≡◌, ◌∙◌, ℕ, [], sym, ap, rules}
use Rattle.std.proofs.lemmas.Result.{on_ok_weaker}
use Rattle.ariadne_picture.specs.declared.cell.Paint.{Paint}
use Rattle.ariadne_picture.specs.declared.cell.Paint.TheVariants.{Plain}
use Rattle.ariadne_layout.specs.Tables.{position_paint, shown_at}
use Rattle.ariadne_render.specs.Pages.{PageFields}
use Rattle.ariadne_render.proofs.ShownRows.{draws_recolored, draws_whole, no_colors, tabs_written}
use Rattle.ariadne_render.proofs.shown.push_characters.Goals as goal

-- the line is shown whole
pub push_stretches-requires : goal.push_stretches-requires
push_stretches-requires c = record { whole = c.is_cut.ensures.0 (search rules) }

pub push_stretches-requires-else-is_shown_whole : goal.push_stretches-requires-else-is_shown_whole
push_stretches-requires-else-is_shown_whole c = record { whole = c.is_cut.ensures.0 (search rules) }

-- with colours the stretches tell them
pub returns-then-is_colored-clause-tabs : goal.returns-then-is_colored-clause-tabs
returns-then-is_colored-clause-tabs c =
    let pen = c.args.pen.now in
    on_ok_weaker c.push_stretches.result
    (tabs_written pen c.push_stretches.new.pen pen.page.switches c.args.layout.now (λ k. position_paint (shown_at c.args.paints.now k)))
    c.push_stretches.ensures

-- without them characters that are shown as they are are their bytes
pub returns-then-is_shown_whole-clause-drawn : goal.returns-then-is_shown_whole-clause-drawn
returns-then-is_shown_whole-clause-drawn c =
    let pen = c.args.pen.now in
    let new = c.push_text.new.self in
    let y = c.args.layout.now in
    let lit : c.is_colored.result ≡ pen.page.palette.is_on = c.is_colored.ensures ∙ ap (λ (p : PageFields). p.palette.is_on) c.page.ensures in
    let off = sym lit ∙ c.if-is_colored.false in
    let paint : ℕ → Paint = λ k. position_paint (shown_at c.args.paints.now k) in
    on_ok_weaker c.push_text.result
    (λ h. draws_recolored pen new pen.page.switches y (λ k. Plain) paint (λ k l. no_colors pen.page.palette Plain (paint k) off)
    (draws_whole pen new y c.shown.result.now (c.is_cut.ensures.0 (search rules)) (c.is_shown_whole.ensures c.if-is_shown_whole.true) c.shown.utf8 c.shown.ensures h))
    c.push_text.ensures

pub returns-then-is_shown_whole-clause-tabs : goal.returns-then-is_shown_whole-clause-tabs
returns-then-is_shown_whole-clause-tabs c =
    let pen = c.args.pen.now in
    let new = c.push_text.new.self in
    let y = c.args.layout.now in
    on_ok_weaker c.push_text.result
    (λ h. tabs_written pen new pen.page.switches y (λ k. Plain)
    (draws_whole pen new y c.shown.result.now (c.is_cut.ensures.0 (search rules)) (c.is_shown_whole.ensures c.if-is_shown_whole.true) c.shown.utf8 c.shown.ensures h))
    c.push_text.ensures

-- and others are written one by one
pub returns-else-is_shown_whole-clause-drawn : goal.returns-else-is_shown_whole-clause-drawn
returns-else-is_shown_whole-clause-drawn c =
    let pen = c.args.pen.now in
    let lit : c.is_colored.result ≡ pen.page.palette.is_on = c.is_colored.ensures ∙ ap (λ (p : PageFields). p.palette.is_on) c.page.ensures in
    let off = sym lit ∙ c.if-is_colored.false in
    let blank : ℕ → Paint = λ k. position_paint (shown_at [] k) in
    let paint : ℕ → Paint = λ k. position_paint (shown_at c.args.paints.now k) in
    on_ok_weaker c.push_stretches-else-is_shown_whole.result
    (draws_recolored pen c.push_stretches-else-is_shown_whole.new.pen pen.page.switches c.args.layout.now blank paint
    (λ k l. no_colors pen.page.palette (blank k) (paint k) off))
    c.push_stretches-else-is_shown_whole.ensures

pub returns-else-is_shown_whole-clause-tabs : goal.returns-else-is_shown_whole-clause-tabs
returns-else-is_shown_whole-clause-tabs c =
    let pen = c.args.pen.now in
    on_ok_weaker c.push_stretches-else-is_shown_whole.result
    (tabs_written pen c.push_stretches-else-is_shown_whole.new.pen pen.page.switches c.args.layout.now (λ k. position_paint (shown_at [] k)))
    c.push_stretches-else-is_shown_whole.ensures
