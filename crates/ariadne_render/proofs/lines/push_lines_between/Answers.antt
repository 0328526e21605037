-- Lines without labels: those near one above, then hidden lines, then those near one below.
use Rattle.std.proofs.Common.{◌≡◌, ◌∙◌, ◌-◌, subst, arith}
use Rattle.std.specs.List.{range_with_len}
use Rattle.std.proofs.lemmas.Result.{on_ok_weaker}
use Rattle.ariadne_picture.specs.Lists.{joined}
use Rattle.ariadne_picture.specs.Rows.{line_rows}
use Rattle.ariadne_layout.specs.Snippets.{sheet_in}
use Rattle.ariadne_render.specs.Pages.{DrawsRows, PageFields}
use Rattle.ariadne_render.proofs.Drawn.{rows_page}
use Rattle.ariadne_render.specs.RowTexts.{rows_of}
use Rattle.ariadne_render.proofs.LinesWalk.{names-append, runs-join}
use Rattle.ariadne_render.proofs.lines.push_lines_between.Given.{Over}
use Rattle.ariadne_render.proofs.lines.push_lines_between.Goals.{In_ok-push_hidden_lines}
use Rattle.ariadne_render.proofs.lines.push_lines_between.Goals as goal

-- ---- those near a label above

-- they come first
pub push_context_lines-requires-clause-up : goal.push_context_lines-requires-clause-up
push_context_lines-requires-clause-up g c = c.requires.between.low

-- they are lines of the source
pub push_context_lines-requires-clause-within : goal.push_context_lines-requires-clause-within
push_context_lines-requires-clause-within g c =
    let up = c.requires.between.up in
    let high = c.requires.between.high in
    let within = c.requires.within in
    omega (arith, up, high, within)

-- they are shown
pub push_context_lines-requires-clause-context : goal.push_context_lines-requires-clause-context
push_context_lines-requires-clause-context g c = c.requires.between.above

-- ---- the hidden ones

-- the lists are at the first
pub push_hidden_lines-requires-clause-at : goal.push_hidden_lines-requires-clause-at
push_hidden_lines-requires-clause-at g c =
    c.in_ok-push_context_lines.ensures.at

-- they rise
pub push_hidden_lines-requires-clause-up : goal.push_hidden_lines-requires-clause-up
push_hidden_lines-requires-clause-up g c = c.requires.between.up

-- they are lines of the source
pub push_hidden_lines-requires-clause-within : goal.push_hidden_lines-requires-clause-within
push_hidden_lines-requires-clause-within g c =
    let high = c.requires.between.high in
    let within = c.requires.within in
    omega (arith, high, within)

-- they are hidden
pub push_hidden_lines-requires-clause-hidden : goal.push_hidden_lines-requires-clause-hidden
push_hidden_lines-requires-clause-hidden g c = c.requires.between.hidden

-- ---- those near a label below

-- the page stays
page-kept : (g : Over) (c : In_ok-push_hidden_lines g) → c.push_hidden_lines.new.writer.pen.page ≡ c.args.writer.now.pen.page
page-kept g c =
    rows_page c.push_context_lines.new.writer.pen c.push_hidden_lines.new.writer.pen _ c.in_ok-push_hidden_lines.ensures.drawn
    ∙ rows_page c.args.writer.now.pen c.push_context_lines.new.writer.pen _ c.in_ok-push_context_lines.ensures.drawn

-- the lists are at the first
pub push_context_lines-requires-2-clause-at : goal.push_context_lines-requires-2-clause-at
push_context_lines-requires-2-clause-at g c =
    c.in_ok-push_hidden_lines.ensures.at

-- they come last
pub push_context_lines-requires-2-clause-up : goal.push_context_lines-requires-2-clause-up
push_context_lines-requires-2-clause-up g c = c.requires.between.high

-- they are shown
pub push_context_lines-requires-2-clause-context : goal.push_context_lines-requires-2-clause-context
push_context_lines-requires-2-clause-context g c = c.requires.between.below

-- ---- all of them

-- the rows of all are written
pub returns-clause-drawn : goal.returns-clause-drawn
returns-clause-drawn g c =
    let v = c.args.snippet.now in
    let a = c.args.writer.now.pen in
    let one = c.push_context_lines.new.writer.pen in
    let two = c.push_hidden_lines.new.writer.pen in
    let new = c.push_context_lines-2.new.writer.pen in
    let width = a.page.number_width in
    let b = (goal.at.returns-clause-drawn g c).In_ok-push_hidden_lines in
    let kept = page-kept g b in
    let first_page = rows_page a one _ c.in_ok-push_context_lines.ensures.drawn in
    let low = c.requires.between.low in
    let up = c.requires.between.up in
    let high = c.requires.between.high in
    let rows = line_rows (sheet_in v) in
    let first = c.args.lines.start in
    let near = c.args.hidden.start in
    let far = c.args.hidden.end in
    let behind = c.args.lines.end in
    let above = joined rows (range_with_len first (near - first)) in
    let hidden = joined rows (range_with_len near (far - near)) in
    let below = joined rows (range_with_len far (behind - far)) in
    let begun = joined rows (range_with_len first (far - first)) in
    let whole = joined rows (range_with_len first (behind - first)) in
    let so_far = names-append v.texts v.section width a one two above hidden begun (runs-join rows first near far low up)
    c.in_ok-push_context_lines.ensures.drawn
    (subst (λ (p : PageFields). DrawsRows one two (rows_of p v hidden)) first_page c.in_ok-push_hidden_lines.ensures.drawn) in
    on_ok_weaker c.push_context_lines-2.result
    (λ d. names-append v.texts v.section width a two new begun below whole (runs-join rows first far behind (omega (arith, low, up)) high) so_far
    (subst (λ (p : PageFields). DrawsRows two new (rows_of p v below)) kept d))
    c.push_context_lines-2.ensures.drawn
