-- A line without messages has the row of its underlines alone, or none; else the rows are those of its labels.
use Rattle.std.proofs.Common.{◌≡◌, ◌∙◌, ◌<◌, ◌^◌, ◌++◌, ap, arith, length, List, subst, sym}
use Rattle.std.specs.Prelude.{IfSome, Option}
use Rattle.std.specs.List.{enumerate_from, list_any}
use Rattle.std.proofs.lemmas.List.{append-nil}
use Rattle.std.proofs.lemmas.Result.{on_ok_weaker}
use Rattle.ariadne_picture.specs.declared.label_info.LineLabel.{LineLabel}
use Rattle.ariadne_picture.specs.declared.switches.Switches.{Switches}
use Rattle.ariadne_picture.specs.Columns.{Layout, arrow_len}
use Rattle.ariadne_picture.specs.Lists.{joined}
use Rattle.ariadne_picture.specs.Ranks.{Sheet}
use Rattle.ariadne_picture.specs.Rows.{Row, label_rows, lone_rows}
use Rattle.ariadne_layout.specs.Tables.{IsTable}
use Rattle.ariadne_layout.specs.Snippets.{labels_at, layout_at, sheet_at}
use Rattle.ariadne_layout.proofs.Listing.{all-enumerated}
use Rattle.ariadne_render.specs.Pages.{DrawsRows, PageFields}
use Rattle.ariadne_render.proofs.Drawn.{draws_rows_none, rows_page}
use Rattle.ariadne_render.specs.RowTexts.{rows_of}
use Rattle.ariadne_render.specs.Writers.{IsBelowAt, WritesRows}
use Rattle.ariadne_render.proofs.KnownSnippets.{rise}
use Rattle.ariadne_render.proofs.KnownLines.{below-kept, rank-kept}
use Rattle.ariadne_render.proofs.LinesLayout.{places-fit}
use Rattle.ariadne_render.proofs.LinesQuiet.{layout-labels, messages-not-lone, no-lone-row, quiet-bars, quiet-rows}
use Rattle.ariadne_render.proofs.LinesRows.{labels-more, rows-of, some-label}
use Rattle.ariadne_render.proofs.below.push_rows_below.Given.{Over}
use Rattle.ariadne_render.proofs.below.push_rows_below.Goals.{After-has_rows}
use Rattle.ariadne_render.proofs.below.push_rows_below.Goals as goal

-- the code tests whether a label has a message
told : (g : Over) (c : After-has_rows g) → list_any (λ (x : LineLabel). x.info.has_message) (labels_at c.args.shown.now) ≡ c.has_rows.result
told g c =
    let v = c.args.shown.now in
    ap (list_any (λ (x : LineLabel). x.info.has_message)) (sym (layout-labels (sheet_at v) v.line c.layout-layout.result.now c.layout-layout.ensures.layout))
    ∙ sym c.has_rows.ensures

-- ---- none has one

pub push_lone_row-requires-clause-silent : goal.push_lone_row-requires-clause-silent
push_lone_row-requires-clause-silent g c =
    told g (goal.at.push_lone_row-requires-clause-silent g c).After-has_rows ∙ c.if-not-has_rows.true

-- the bars stay
pub returns-then-not-has_rows-clause-at : goal.returns-then-not-has_rows-clause-at
returns-then-not-has_rows-clause-at g c =
    let v = c.args.shown.now in
    let at = c.requires.at in
    let quiet = told g (goal.at.returns-then-not-has_rows-clause-at g c).After-has_rows ∙ c.if-not-has_rows.true in
    on_ok_weaker c.push_lone_row.result
    (below-kept v (length (labels_at v)) c.args.writer.now c.push_lone_row.new.writer _
    (record {
      is_snippet = at.is_snippet;
      one_page = at.one_page;
      bars = quiet-bars (sheet_at v) v.line (length (labels_at v)) c.args.writer.now.gutter (rise v.snippet at.is_snippet) at.bars quiet (omega arith);
    })) c.push_lone_row.ensures

-- there is no row but that of their underlines
pub returns-then-not-has_rows-clause-drawn : goal.returns-then-not-has_rows-clause-drawn
returns-then-not-has_rows-clause-drawn g c =
    let v = c.args.shown.now in
    let s : Sheet = sheet_at v in
    let l = v.line in
    let pen = c.args.writer.now.pen in
    let page = pen.page in
    let xs : List LineLabel = labels_at v in
    let quiet = told g (goal.at.returns-then-not-has_rows-clause-drawn g c).After-has_rows ∙ c.if-not-has_rows.true in
    on_ok_weaker c.push_lone_row.result (λ d.
    rows-of v.snippet.texts v.snippet.section page.number_width pen c.push_lone_row.new.writer.pen (lone_rows s l)
    (joined (label_rows page.switches.compact l) (enumerate_from 0 xs) ++ lone_rows s l)
    (ap (λ (rows : List Row). rows ++ lone_rows s l) (quiet-rows page.switches.compact l 0 xs quiet)) d.drawn)
    c.push_lone_row.ensures

-- ---- one has one

-- the places fit
pub fill-requires-clause-places_fit : goal.fill-requires-clause-places_fit
fill-requires-clause-places_fit g c =
    let v = c.args.shown.now in
    let is = c.layout-layout.ensures.is in
    subst (λ (y : Layout). arrow_len c.switches.result.now y < 2 ^ 64) (sym c.layout-layout.ensures.layout)
    (places-fit c.switches.result.now (sheet_at v) v.line is.places_fit is.over c.layout-layout.ensures.within)

-- the table is that of the first label, and no row is written
pub loop-rank-init : goal.loop-rank-init
unfolding joined
loop-rank-init g c =
    let v = c.args.shown.now in
    let asked : c.switches.result.now ≡ c.args.writer.now.pen.page.switches =
    c.switches.ensures.switches ∙ ap (λ (p : PageFields). p.switches) c.page.ensures in
    record {
      at = record {
        below = c.requires.at;
        is_table = subst (λ (w : Switches). IsTable w (layout_at v) 0 c.fill.new.self) asked
            (subst (λ (y : Layout). IsTable c.switches.result.now y 0 c.fill.new.self) c.layout-layout.ensures.layout c.in_ok-fill.ensures);
      };
      drawn = draws_rows_none c.args.writer.now.pen;
    }

-- the next label is there
pub push_label-requires-clause-rank : goal.push_label-requires-clause-rank
push_label-requires-clause-rank g c =
    let v = c.args.shown.now in
    let n = ap length (c.labels-rank-end.ensures ∙ layout-labels (sheet_at v) v.line c.layout-layout.result.now c.layout-layout.ensures.layout) in
    let less = c.loop-rank-test.true in
    omega arith

-- below them the bars are as above them
pub pass_label-requires : goal.pass_label-requires
pass_label-requires g c =
    let v = c.args.shown.now in
    let r = c.loop-rank.rank in
    let n = ap length (c.labels-rank-end.ensures ∙ layout-labels (sheet_at v) v.line c.layout-layout.result.now c.layout-layout.ensures.layout) in
    let less = c.loop-rank-test.true in
    let low : r < length (labels_at v) = omega arith in
    let some = some-label (labels_at v) r low in
    let page = c.loop-rank.writer.pen.page in
    let rows = subst (λ (o : Option LineLabel). IfSome o (λ x. WritesRows c.loop-rank.writer c.push_label.new.writer
    (rows_of page v.snippet (label_rows page.switches.compact v.line (r, x))))) some.1 c.in_ok-push_label.ensures in
    record { rank = low; at = rank-kept v r c.loop-rank.writer c.push_label.new.writer c.loop-rank.table _ c.loop-rank.invariant.at rows }

-- the rows of one label more
pub loop-rank-preserved : goal.loop-rank-preserved
loop-rank-preserved g c =
    let v = c.args.shown.now in
    let a = c.args.writer.now.pen in
    let b = c.loop-rank.writer.pen in
    let z = c.pass_label.new.writer.pen in
    let r = c.loop-rank.rank in
    let xs : List LineLabel = labels_at v in
    let inv = c.loop-rank.invariant in
    let same : b.page ≡ a.page = rows_page a b _ inv.drawn in
    let n = ap length (c.labels-rank-end.ensures ∙ layout-labels (sheet_at v) v.line c.layout-layout.result.now c.layout-layout.ensures.layout) in
    let test = c.loop-rank-test.true in
    let some = some-label xs r (omega arith) in
    let rows = subst (λ (o : Option LineLabel). IfSome o (λ x. WritesRows c.loop-rank.writer c.push_label.new.writer
    (rows_of b.page v.snippet (label_rows b.page.switches.compact v.line (r, x))))) some.1 c.in_ok-push_label.ensures in
    let d : DrawsRows b z (rows_of b.page v.snippet (label_rows b.page.switches.compact v.line (r, some.0))) =
    c.in_ok-pass_label.ensures.pen ∙ rows.drawn in
    record {
      at = c.in_ok-pass_label.ensures.at;
      drawn = labels-more v.snippet.texts v.snippet.section a.page.number_width v.line r a.page.switches.compact a b z xs some.0 some.1
          inv.drawn
          (subst (λ (p : PageFields). DrawsRows b z (rows_of p v.snippet (label_rows p.switches.compact v.line (r, some.0)))) same d);
    }

-- the bars are those behind all labels
pub returns-clause-at : goal.returns-clause-at
returns-clause-at g c =
    let v = c.args.shown.now in
    let n = ap length (c.labels-rank-end.ensures ∙ layout-labels (sheet_at v) v.line c.layout-layout.result.now c.layout-layout.ensures.layout) in
    let test = c.loop-rank-test.false in
    let high = c.loop-rank.auto.rank-end in
    let all : c.loop-rank.rank ≡ length (labels_at v) = omega arith in
    subst (λ k. IsBelowAt v k c.loop-rank.writer) all c.loop-rank.invariant.at.below

-- there is no row for underlines alone
pub returns-clause-drawn : goal.returns-clause-drawn
returns-clause-drawn g c =
    let v = c.args.shown.now in
    let s : Sheet = sheet_at v in
    let l = v.line in
    let pen = c.args.writer.now.pen in
    let page = pen.page in
    let xs : List LineLabel = labels_at v in
    let loud = told g (goal.at.returns-clause-drawn g c).After-has_rows ∙ c.if-not-has_rows.false in
    let none = no-lone-row s l (messages-not-lone s l loud) in
    let n = ap length (c.labels-rank-end.ensures ∙ layout-labels s l c.layout-layout.result.now c.layout-layout.ensures.layout) in
    let test = c.loop-rank-test.false in
    let rows = joined (label_rows page.switches.compact l) (enumerate_from 0 xs) in
    rows-of v.snippet.texts v.snippet.section page.number_width pen c.loop-rank.writer.pen rows (rows ++ lone_rows s l)
    (sym (ap (λ (xs : List Row). rows ++ xs) none ∙ append-nil rows))
    (subst (λ es. DrawsRows pen c.loop-rank.writer.pen (rows_of page v.snippet (joined (label_rows page.switches.compact l) es)))
    (all-enumerated xs c.loop-rank.rank (omega arith)) c.loop-rank.invariant.drawn)
