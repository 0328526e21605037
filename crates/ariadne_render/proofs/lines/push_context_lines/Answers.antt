-- A line without labels is written as one that has some, but of no events.
use Rattle.std.proofs.Common.{◌≡◌, ◌∙◌, ◌+◌, ◌-◌, [], ◌++◌, sym, ap, subst, arith}
use Rattle.std.specs.List.{range_with_len}
use Rattle.ariadne_picture.specs.Lists.{joined}
use Rattle.ariadne_picture.specs.Rows.{line_rows}
use Rattle.ariadne_layout.specs.Snippets.{sheet_in}
use Rattle.ariadne_layout.proofs.Events.{unlabelled-no_event}
use Rattle.ariadne_render.specs.Pages.{DrawsRows, PageFields}
use Rattle.ariadne_render.proofs.Drawn.{draws_rows_none, rows_page}
use Rattle.ariadne_render.specs.RowTexts.{rows_of}
use Rattle.ariadne_render.specs.DrawnLines.{IsAt}
use Rattle.ariadne_render.proofs.LinesRows.{rows-of}
use Rattle.ariadne_render.proofs.LinesWalk.{names-append, run-empty, run-one, runs-join}
use Rattle.ariadne_render.proofs.lines.push_context_lines.Goals as goal

-- no line is written
pub loop-line-init : goal.loop-line-init
loop-line-init g c =
    let v = c.args.snippet.now in
    let a = c.args.writer.now.pen in
    let first = c.args.first in
    record {
      at = c.requires.at;
      drawn = rows-of v.texts v.section a.page.number_width a a [] (joined (line_rows (sheet_in v)) (range_with_len first (first - first)))
          (run-empty (line_rows (sheet_in v)) first first (omega arith)) (draws_rows_none a);
    }

-- ---- the next line

-- the lists are at it
pub push_line-requires-clause-at : goal.push_line-requires-clause-at
push_line-requires-clause-at g c =
    c.loop-line.invariant.at

-- it is a line of the source
pub push_line-requires-clause-within : goal.push_line-requires-clause-within
push_line-requires-clause-within g c = let within = c.requires.within in omega (arith, within)

-- it is shown
pub push_line-requires-clause-shown : goal.push_line-requires-clause-shown
push_line-requires-clause-shown g c =
    let low = c.loop-line.auto.line in
    c.requires.context.shown c.loop-line.line (omega (arith, low)) (omega arith)

-- no event is on it
pub push_line-requires-clause-events : goal.push_line-requires-clause-events
push_line-requires-clause-events g c =
    let l = c.loop-line.line in
    let low = c.loop-line.auto.line in
    record {
      range = omega arith;
      within = omega arith;
      there = sym (unlabelled-no_event (sheet_in c.args.snippet.now).labels l (c.requires.context.unlabelled l (omega (arith, low)) (omega arith)));
    }

-- one line more
pub loop-line-preserved : goal.loop-line-preserved
loop-line-preserved g c =
    let v = c.args.snippet.now in
    let a = c.args.writer.now.pen in
    let b = c.loop-line.writer.pen in
    let z = c.push_line.new.writer.pen in
    let inv = c.loop-line.invariant in
    let first = c.args.first in
    let l = c.loop-line.line in
    let low = c.loop-line.auto.line in
    let kept = rows_page a b _ inv.drawn in
    let rows = line_rows (sheet_in v) in
    let before = joined rows (range_with_len first (l - first)) in
    let whole = joined rows (range_with_len first (l + 1 - first)) in
    let one : before ++ rows l ≡ whole =
    ap (λ t. before ++ t) (run-one rows l) ∙ runs-join rows first l (l + 1) (omega (arith, low)) (omega arith) in
    record {
      at = c.in_ok-push_line.ensures.at;
      drawn = names-append v.texts v.section a.page.number_width a b z before (rows l) whole one inv.drawn
          (subst (λ (p : PageFields). DrawsRows b z (rows_of p v (rows l))) kept c.in_ok-push_line.ensures.drawn);
    }

-- ---- all lines

-- the lists are at the line behind the last
pub returns-clause-at : goal.returns-clause-at
returns-clause-at g c =
    let up = c.requires.up in
    let done : c.loop-line.line ≡ c.args.behind = omega (arith, c.loop-line.auto.line-end up) in
    subst (λ l. IsAt c.args.snippet.now l c.loop-line.writer c.loop-line.lists) done c.loop-line.invariant.at

-- the rows of all are written
pub returns-clause-drawn : goal.returns-clause-drawn
returns-clause-drawn g c =
    let v = c.args.snippet.now in
    let up = c.requires.up in
    let done : c.loop-line.line ≡ c.args.behind = omega (arith, c.loop-line.auto.line-end up) in
    subst (λ l. DrawsRows c.args.writer.now.pen c.loop-line.writer.pen
    (rows_of c.args.writer.now.pen.page v (joined (line_rows (sheet_in v)) (range_with_len c.args.first (l - c.args.first))))) done
    c.loop-line.invariant.drawn
