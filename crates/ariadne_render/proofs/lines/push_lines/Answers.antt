-- The lines of a snippet are written one after another: those without labels, then the line of the next event, and those behind the last.
use Rattle.std.proofs.Common.{◌≡◌, ◌∙◌, ℕ, suc, ◌+◌, ◌-◌, ◌<◌, ◌≤◌, ◌^◌, min, [], ◌++◌, length, refl, sym, ap, subst, arith, List}
use Rattle.std.specs.Prelude.{Option, option_map, slice_get}
use Rattle.std.specs.List.{range_with_len}
use Rattle.std.proofs.lemmas.Result.{on_ok_weaker}
use Rattle.ariadne_picture.specs.declared.label_info.LabelInfo.{LabelInfo}
use Rattle.ariadne_picture.specs.declared.switches.Switches.{Switches}
use Rattle.ariadne_picture.specs.Lists.{joined}
use Rattle.ariadne_picture.specs.Ranks.{Sheet, first_line, group_lines, last_line}
use Rattle.ariadne_picture.specs.Rows.{line_rows}
use Rattle.ariadne_layout.specs.declared.snippet_labels.Event.{Event}
use Rattle.ariadne_layout.specs.SnippetLabels.{IsLineEnd, events_of}
use Rattle.ariadne_layout.specs.Snippets.{sheet_in}
use Rattle.ariadne_render.specs.Pages.{DrawsRows, PageFields}
use Rattle.ariadne_render.proofs.Drawn.{draws_rows_none, rows_page}
use Rattle.ariadne_render.specs.RowTexts.{rows_of}
use Rattle.ariadne_render.specs.DrawnLines.{IsAt}
use Rattle.ariadne_render.proofs.KnownSnippets.{rise}
use Rattle.ariadne_render.proofs.LinesRows.{rows-of}
use Rattle.ariadne_render.proofs.LinesWalk.{IsStep, IsWalked, end-before_last, last-within, last_shown-within, names-append}
use Rattle.ariadne_render.proofs.LinesWalk.{run-empty, run-one, runs-join, step, walk-end, walk-start}
use Rattle.ariadne_render.proofs.lines.push_lines.Given.{Over}
use Rattle.ariadne_render.proofs.lines.push_lines.Goals.{In-Some, In_ok-push_lines_between}
use Rattle.ariadne_render.proofs.lines.push_lines.Goals as goal

-- ---- the first line

-- the number behind the last line fits
pub overflow_add-behind : goal.overflow_add-behind
overflow_add-behind g c =
    let is = c.requires.at.above.is_snippet in
    let last = last_shown-within (sheet_in c.args.snippet.now) is.some is.over in
    let read = c.last_line-behind.ensures in
    let fits = is.numbers_fit in
    omega (arith, last, read, fits)

-- no line is written
pub loop-next-init : goal.loop-next-init
loop-next-init g c =
    let v = c.args.snippet.now in
    let s : Sheet = sheet_in v in
    let at = c.requires.at in
    let is = at.above.is_snippet in
    let a = c.args.writer.now.pen in
    let first : first_line s ≡ c.first_line-line.result = sym c.first_line-line.ensures in
    record {
      at = subst (λ n. IsAt v n c.args.writer.now c.args.lists.now) first at;
      walked = subst (λ n. IsWalked s (length s.lines) n n 0 c.args.writer.now.gutter) first
          (walk-start s (length s.lines) (rise v is) c.args.writer.now.gutter is.some at.above.bars);
      drawn = rows-of v.texts v.section a.page.number_width a a []
          (joined (line_rows s) (range_with_len (first_line s) (c.first_line-line.result - first_line s)))
          (run-empty (line_rows s) (first_line s) c.first_line-line.result (omega (arith, first))) (draws_rows_none a);
    }

-- ---- the lines before that of the next event

-- the line of an event of these labels
abbrev line_of_event : ℕ → List LabelInfo → Option ℕ
line_of_event k labels = option_map (λ (e : Event). e.line) (slice_get (events_of labels) k)

-- the labels end in the lines
ends-within : (g : Over) (c : In-Some g)
    → Rattle.ariadne_picture.specs.Groups.group_end_line (sheet_in c.args.snippet.now).labels < length (sheet_in c.args.snippet.now).lines
ends-within g c =
    let is = c.requires.at.above.is_snippet in last-within (sheet_in c.args.snippet.now).lines (sheet_in c.args.snippet.now).labels is.some is.over

-- what is known of that line
step-at : (g : Over) (c : In-Some g)
    → IsStep (sheet_in c.args.snippet.now) (length (sheet_in c.args.snippet.now).lines) c.loop-next.line c.loop-next.near c.loop-next.event c.in-Some.next
step-at g c =
    let v = c.args.snippet.now in
    let inv = c.loop-next.invariant in
    step (sheet_in v) (length (sheet_in v).lines) (rise v c.requires.at.above.is_snippet) c.loop-next.line c.loop-next.near c.loop-next.event c.in-Some.next
    c.loop-next.writer.gutter c.event_line.result inv.walked (ends-within g c)
    (c.event_line.ensures ∙ ap (line_of_event c.loop-next.event) inv.at.labels) c.in-Some.is

-- it is a line of the source
line-there : (g : Over) (c : In-Some g) → c.in-Some.next < length (sheet_in c.args.snippet.now).lines
line-there g c =
    let within = (step-at g c).within in
    let last = ends-within g c in
    omega (arith, within, last)

-- the lists are at the first
pub push_lines_between-requires-clause-at : goal.push_lines_between-requires-clause-at
push_lines_between-requires-clause-at g c =
    c.loop-next.invariant.at

-- the lines are those of the source
pub push_lines_between-requires-clause-within : goal.push_lines_between-requires-clause-within
push_lines_between-requires-clause-within g c =
    let less = line-there g (goal.at.push_lines_between-requires-clause-within g c).In-Some in omega (arith, less)

-- they have no labels
pub push_lines_between-requires-clause-between : goal.push_lines_between-requires-clause-between
push_lines_between-requires-clause-between g c =
    let s : Sheet = sheet_in c.args.snippet.now in
    let b = (goal.at.push_lines_between-requires-clause-between g c).In-Some in
    let far : c.saturating_sub.result ≡ c.in-Some.next - s.switches.context_lines =
    c.saturating_sub.ensures ∙ ap (λ (w : Switches). c.in-Some.next - w.context_lines) c.switches.ensures in
    let end = c.hidden_lines-hidden.ensures.end in
    (step-at g b).apart.between _ c.hidden_lines-hidden.result refl refl c.hidden_lines-hidden.ensures.start (omega (arith, end, far))

-- ---- the line of the next event

-- the page stays
between-page : (g : Over) (c : In_ok-push_lines_between g) → c.push_lines_between.new.writer.pen.page ≡ c.args.writer.now.pen.page
between-page g c =
    rows_page c.loop-next.writer.pen c.push_lines_between.new.writer.pen _ c.in_ok-push_lines_between.ensures.drawn
    ∙ rows_page c.args.writer.now.pen c.loop-next.writer.pen _ c.loop-next.invariant.drawn

-- the next event is there
pub line_end-end-requires : goal.line_end-end-requires
line_end-end-requires g c = record {
  within =
      let st = step-at g (goal.at.line_end-end-requires g c).In-Some in
      subst (λ (ls : List LabelInfo). c.loop-next.event < length (events_of ls)) (sym c.in_ok-push_lines_between.ensures.at.labels) st.event;
}

-- the events up to the next line's
line-ends : (g : Over) (c : In_ok-push_lines_between g) (end : ℕ)
    → IsLineEnd (events_of c.push_lines_between.new.lists.sheet.labels) c.loop-next.event end
    → IsLineEnd (events_of (sheet_in c.args.snippet.now).labels) c.loop-next.event end
line-ends g c end h =
    subst (λ (ls : List LabelInfo). IsLineEnd (events_of ls) c.loop-next.event end) c.in_ok-push_lines_between.ensures.at.labels h

-- the lists are at it
pub push_line-requires-clause-at : goal.push_line-requires-clause-at
push_line-requires-clause-at g c =
    c.in_ok-push_lines_between.ensures.at

-- it is a line of the source
pub push_line-requires-clause-within : goal.push_line-requires-clause-within
push_line-requires-clause-within g c = line-there g (goal.at.push_line-requires-clause-within g c).In-Some

-- it is shown
pub push_line-requires-clause-shown : goal.push_line-requires-clause-shown
push_line-requires-clause-shown g c = (step-at g (goal.at.push_line-requires-clause-shown g c).In-Some).shown

-- its events are
pub push_line-requires-clause-events : goal.push_line-requires-clause-events
push_line-requires-clause-events g c =
    let st = step-at g (goal.at.push_line-requires-clause-events g c).In-Some in
    let ends = line-ends g (goal.at.push_line-requires-clause-events g c).In_ok-push_lines_between c.line_end-end.result c.line_end-end.ensures in
    let behind = ends.behind in
    record { range = omega (arith, behind); within = ends.within; there = st.events c.line_end-end.result ends }

-- the number of the line below it fits
pub overflow_add-line : goal.overflow_add-line
overflow_add-line g c =
    let less = line-there g (goal.at.overflow_add-line g c).In-Some in
    let fits = c.requires.at.above.is_snippet.numbers_fit in
    omega (arith, less, fits)

-- ---- the turn to the next line

-- fewer lines are left
pub loop-next-smaller : goal.loop-next-smaller
loop-next-smaller g c =
    let st = step-at g (goal.at.loop-next-smaller g c).In-Some in
    let up = st.up in
    let within = st.within in
    omega (arith, up, within)

-- the rows of the lines so far
pub loop-next-preserved : goal.loop-next-preserved
loop-next-preserved g c =
    let v = c.args.snippet.now in
    let s : Sheet = sheet_in v in
    let inv = c.loop-next.invariant in
    let b = (goal.at.loop-next-preserved g c).In_ok-push_lines_between in
    let st = step-at g (goal.at.loop-next-preserved g c).In-Some in
    let a = c.args.writer.now.pen in
    let mid = c.push_lines_between.new.writer.pen in
    let new = c.push_line.new.writer.pen in
    let old = rows_page a c.loop-next.writer.pen _ inv.drawn in
    let kept = between-page g b in
    let l = c.loop-next.line in
    let n = c.in-Some.next in
    let top = 2 ^ 64 - 1 in
    let fits = c.requires.at.above.is_snippet.numbers_fit in
    let near : c.saturating_add-near.result ≡ min (n + 1 + s.switches.context_lines) top =
    c.saturating_add-near.ensures ∙ ap (λ (w : Switches). min (n + 1 + w.context_lines) top) c.switches.ensures in
    let at = c.in_ok-push_line.ensures.at in
    let from = first_line s in
    let first = inv.walked.low in
    let up = st.up in
    let rows = line_rows s in
    let before = joined rows (range_with_len from (l - from)) in
    let between = joined rows (range_with_len l (n - l)) in
    let above = joined rows (range_with_len from (n - from)) in
    let whole = joined rows (range_with_len from (n + 1 - from)) in
    let one : above ++ rows n ≡ whole =
    ap (λ t. above ++ t) (run-one rows n) ∙ runs-join rows from n (n + 1) (omega (arith, first, up)) (omega arith) in
    let append = names-append v.texts v.section a.page.number_width a in
    record {
      at = at;
      walked = st.next c.line_end-end.result c.saturating_add-near.result top c.push_line.new.writer.gutter
          (line-ends g b c.line_end-end.result c.line_end-end.ensures) (omega (arith, fits)) near at.above.bars;
      drawn = append mid new above (rows n) whole one
          (append c.loop-next.writer.pen mid before between above (runs-join rows from l n first up) inv.drawn
          (subst (λ (p : PageFields). DrawsRows c.loop-next.writer.pen mid (rows_of p v between)) old c.in_ok-push_lines_between.ensures.drawn))
          (subst (λ (p : PageFields). DrawsRows mid new (rows_of p v (rows n))) kept c.in_ok-push_line.ensures.drawn);
    }

-- ---- the lines behind the last

-- the lists are at the first
pub push_lines_between-requires-2-clause-at : goal.push_lines_between-requires-2-clause-at
push_lines_between-requires-2-clause-at g c =
    c.loop-next.invariant.at

-- they are lines of the source
pub push_lines_between-requires-2-clause-within : goal.push_lines_between-requires-2-clause-within
push_lines_between-requires-2-clause-within g c =
    let is = c.requires.at.above.is_snippet in
    let last = last_shown-within (sheet_in c.args.snippet.now) is.some is.over in
    let read = c.last_line-behind.ensures in
    omega (arith, last, read)

-- they have no labels
pub push_lines_between-requires-2-clause-between : goal.push_lines_between-requires-2-clause-between
push_lines_between-requires-2-clause-between g c =
    let v = c.args.snippet.now in
    let s : Sheet = sheet_in v in
    let is = c.requires.at.above.is_snippet in
    let inv = c.loop-next.invariant in
    let read = c.last_line-behind.ensures in
    let high = inv.walked.high in
    let ends = end-before_last s in
    let within = last_shown-within s is.some is.over in
    (walk-end s (length s.lines) (rise v is) c.loop-next.line c.loop-next.near c.loop-next.event (c.last_line-behind.result + 1) c.loop-next.writer.gutter
    c.event_line.result inv.walked (omega (arith, high, ends, read)) (omega (arith, within, read))
    (c.event_line.ensures ∙ ap (line_of_event c.loop-next.event) inv.at.labels) c.in_default.is).between _ c.hidden_lines-hidden-2.result refl refl
    c.hidden_lines-hidden-2.ensures.start c.hidden_lines-hidden-2.ensures.end

-- the lists are behind the last line
pub returns-clause-at : goal.returns-clause-at
returns-clause-at g c =
    let v = c.args.snippet.now in
    on_ok_weaker c.push_lines_between-2.result
    (λ at. subst (λ n. IsAt v (n + 1) c.push_lines_between-2.new.writer c.push_lines_between-2.new.lists) c.last_line-behind.ensures at)
    c.push_lines_between-2.ensures.at

-- the rows of all lines are written
pub returns-clause-drawn : goal.returns-clause-drawn
unfolding group_lines
returns-clause-drawn g c =
    let v = c.args.snippet.now in
    let s : Sheet = sheet_in v in
    let a = c.args.writer.now.pen in
    let inv = c.loop-next.invariant in
    let l = c.loop-next.line in
    let m = c.last_line-behind.result + 1 in
    let read = c.last_line-behind.ensures in
    let from = first_line s in
    let first = inv.walked.low in
    let high = inv.walked.high in
    let ends = end-before_last s in
    let up : l ≤ m = omega (arith, high, ends, read) in
    let all : m - from ≡ suc (last_line s) - from = omega (arith, read) in
    let rows = line_rows s in
    let before = joined rows (range_with_len from (l - from)) in
    let after = joined rows (range_with_len l (m - l)) in
    let whole = joined rows (range_with_len from (suc (last_line s) - from)) in
    let old = rows_page a c.loop-next.writer.pen _ inv.drawn in
    let new = c.push_lines_between-2.new.writer.pen in
    on_ok_weaker c.push_lines_between-2.result
    (λ d. names-append v.texts v.section a.page.number_width a c.loop-next.writer.pen new before after whole
    (runs-join rows from l m first up ∙ ap (λ n. joined rows (range_with_len from n)) all) inv.drawn
    (subst (λ (p : PageFields). DrawsRows c.loop-next.writer.pen new (rows_of p v after)) old d))
    c.push_lines_between-2.ensures.drawn
