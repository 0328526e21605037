-- The row in place of the hidden lines is that of the first of them.
use Rattle.std.proofs.Common.{◌-◌, [], arith}
use Rattle.std.specs.List.{range_with_len}
use Rattle.std.proofs.lemmas.Result.{on_ok_weaker}
use Rattle.ariadne_picture.specs.Lists.{joined}
use Rattle.ariadne_picture.specs.Ranks.{Sheet}
use Rattle.ariadne_picture.specs.Rows.{line_rows}
use Rattle.ariadne_layout.specs.Snippets.{sheet_in}
use Rattle.ariadne_render.proofs.Drawn.{draws_rows_none}
use Rattle.ariadne_render.proofs.KnownLines.{at-behind}
use Rattle.ariadne_render.proofs.LinesRows.{rows-of}
use Rattle.ariadne_render.proofs.LinesWalk.{run-empty, run-hidden}
use Rattle.ariadne_render.proofs.lines.push_hidden_lines.Goals as goal

-- ---- there are some

-- the first is hidden
pub push_hidden-requires-clause-hidden : goal.push_hidden-requires-clause-hidden
push_hidden-requires-clause-hidden g c = c.requires.hidden.hidden c.args.line (omega arith) c.if-line-next.true

-- and begins a run
pub push_hidden-requires-clause-run : goal.push_hidden-requires-clause-run
push_hidden-requires-clause-run g c = c.requires.hidden.begins

pub returns-then-line-next-clause-at : goal.returns-then-line-next-clause-at
returns-then-line-next-clause-at g c =
    on_ok_weaker c.push_hidden.result
    (λ at. at-behind c.args.snippet.now c.args.line c.args.next c.push_hidden.new.writer c.push_hidden.new.lists at c.requires.hidden c.requires.up)
    c.push_hidden.ensures.at

-- it has the row
pub returns-then-line-next-clause-drawn : goal.returns-then-line-next-clause-drawn
returns-then-line-next-clause-drawn g c =
    let v = c.args.snippet.now in
    let s : Sheet = sheet_in v in
    let l = c.args.line in
    let m = c.args.next in
    on_ok_weaker c.push_hidden.result
    (λ d. rows-of v.texts v.section c.args.writer.now.pen.page.number_width c.args.writer.now.pen c.push_hidden.new.writer.pen (line_rows s l)
    (joined (line_rows s) (range_with_len l (m - l))) (run-hidden s l m c.requires.hidden.low c.if-line-next.true c.requires.hidden.hidden) d)
    c.push_hidden.ensures.drawn

-- ---- there is none

pub returns-else-line-next-clause-at : goal.returns-else-line-next-clause-at
returns-else-line-next-clause-at g c =
    at-behind c.args.snippet.now c.args.line c.args.next c.args.writer.now c.args.lists.now c.requires.at c.requires.hidden c.requires.up

pub returns-else-line-next-clause-drawn : goal.returns-else-line-next-clause-drawn
returns-else-line-next-clause-drawn g c =
    let v = c.args.snippet.now in
    let s : Sheet = sheet_in v in
    let l = c.args.line in
    let m = c.args.next in
    rows-of v.texts v.section c.args.writer.now.pen.page.number_width c.args.writer.now.pen c.args.writer.now.pen []
    (joined (line_rows s) (range_with_len l (m - l))) (run-empty (line_rows s) l m c.if-line-next.false) (draws_rows_none c.args.writer.now.pen)
