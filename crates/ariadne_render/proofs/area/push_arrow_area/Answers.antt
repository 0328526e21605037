use Rattle.std.proofs.Common.{sym, ap, ◌∙◌, arith}
use Rattle.std.proofs.lemmas.Result.{on_ok_weaker}
use Rattle.ariadne_render.specs.Pages.{PageFields}
use Rattle.ariadne_render.proofs.ArrowRows.{arrow_at_margin, arrow_cut, arrow_turned}
use Rattle.ariadne_render.proofs.SeenInks.{margin_side}
use Rattle.ariadne_render.proofs.area.push_arrow_area.Goals as goal

-- the margin label has no corner
pub returns-then-at_margin : goal.returns-then-at_margin
returns-then-at_margin c =
    let y = c.args.layout.now in
    let t = c.requires.table in
    let m = sym c.is_margin-at_margin.ensures in
    let x = c.args.own.now in
    let found = c.arrow_backdrops-before in
    let end = c.horizontal_end-end in
    let margin = m ∙ c.if-at_margin.true in
    on_ok_weaker c.push_places-then-at_margin.result
    (arrow_at_margin c.args.pen.now y c.args.rank c.args.table.now t x c.switches.result.now
    (c.switches.ensures.switches ∙ ap (λ (q : PageFields). q.switches) c.page.ensures) found.result.0 found.result.1 found.ensures.before
    found.ensures.behind c.push_places.new.pen c.push_places-then-at_margin.new.pen end.result margin end.ensures.within
    (end.ensures.covered (margin_side y.margin x margin)) c.in_ok-push_places.ensures)
    c.push_places-then-at_margin.ensures

-- any other turns at its own place
pub returns-in_ok-push_places-3 : goal.returns-in_ok-push_places-3
returns-in_ok-push_places-3 c =
    let y = c.args.layout.now in
    let t = c.requires.table in
    let m = sym c.is_margin-at_margin.ensures in
    let found = c.arrow_backdrops-before in
    arrow_turned c.args.pen.now y c.args.rank c.args.table.now t c.args.own.now c.switches.result.now
    (c.switches.ensures.switches ∙ ap (λ (q : PageFields). q.switches) c.page.ensures) found.result.0 found.result.1 found.ensures.before
    found.ensures.behind c.push_places-2.new.pen c.push_ink.new.self c.push_places-then-place-table.new.pen c.min-place.result
    c.width.result c.corner_ink.result (m ∙ c.if-at_margin.false) (omega arith) c.if-place-table.true c.corner_ink.ensures c.width.ensures
    c.in_ok-push_places-2.ensures c.in_ok-push_ink.ensures c.in_ok-push_places-3.ensures

-- unless that is past the row
pub returns-else-place-table : goal.returns-else-place-table
returns-else-place-table c =
    let y = c.args.layout.now in
    let t = c.requires.table in
    let m = sym c.is_margin-at_margin.ensures in
    let found = c.arrow_backdrops-before in
    arrow_cut c.args.pen.now y c.args.rank c.args.table.now t c.args.own.now c.switches.result.now
    (c.switches.ensures.switches ∙ ap (λ (q : PageFields). q.switches) c.page.ensures) found.result.0 found.result.1 found.ensures.before
    found.ensures.behind c.push_places-2.new.pen c.min-place.result (omega arith) (omega arith) c.in_ok-push_places-2.ensures
