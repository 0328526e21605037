-- The arrow row stands below the alternate row, or alone.
use Rattle.std.proofs.Common.{◌≡◌, ◌∙◌, rules, sym, ap, subst, true, false, ◌∷◌, [], refl}
use Rattle.std.specs.Prelude.{IfSome, OnOk, Option}
use Rattle.std.proofs.lemmas.Result.{on_ok_weaker}
use Rattle.ariadne_picture.specs.declared.label_info.LineLabel.{LineLabel}
use Rattle.ariadne_picture.specs.declared.switches.Switches.{Switches}
use Rattle.ariadne_picture.specs.Rows.{alternate, arrow, label_rows}
use Rattle.ariadne_layout.specs.Snippets.{sheet_at}
use Rattle.ariadne_render.specs.Pages.{DrawsRow, PageFields}
use Rattle.ariadne_render.proofs.Drawn.{draws_rows-append, draws_rows_none, draws_rows_one}
use Rattle.ariadne_render.specs.RowTexts.{row_of, rows_of}
use Rattle.ariadne_render.specs.Writers.{WritesRows}
use Rattle.ariadne_render.proofs.KnownLines.{one-row, rank-kept}
use Rattle.ariadne_render.proofs.LinesQuiet.{label-less, label-read, label-told}
use Rattle.ariadne_render.proofs.LinesRows.{label-none, label-one, label-two, row-page, rows-of}
use Rattle.ariadne_render.proofs.below.push_label.Goals as goal

-- the label is there
pub offset_bounds-labels-rank : goal.offset_bounds-labels-rank
offset_bounds-labels-rank g c =
    let v = c.args.shown.now in
    let less = label-less (sheet_at v) v.line c.args.rank c.layout.result.now c.labels-labels.result.now c.layout.ensures.layout
    c.labels-labels.ensures c.requires.rank in
    search rules

pub bounds-labels-rank : goal.bounds-labels-rank
bounds-labels-rank g c =
    let v = c.args.shown.now in
    label-less (sheet_at v) v.line c.args.rank c.layout.result.now c.labels-labels.result.now c.layout.ensures.layout
    c.labels-labels.ensures c.requires.rank

-- it is that label
pub push_arrow_row-requires-clause-label : goal.push_arrow_row-requires-clause-label
push_arrow_row-requires-clause-label g c =
    let v = c.args.shown.now in
    label-read (sheet_at v) v.line c.args.rank c.layout.result.now c.labels-labels.result.now _ c.layout.ensures.layout
    c.labels-labels.ensures c.requires.rank

pub push_arrow_row-requires-2-clause-label : goal.push_arrow_row-requires-2-clause-label
push_arrow_row-requires-2-clause-label g c =
    let v = c.args.shown.now in
    label-read (sheet_at v) v.line c.args.rank c.layout.result.now c.labels-labels.result.now _ c.layout.ensures.layout
    c.labels-labels.ensures c.requires.rank

-- the page is not compact
pub push_alternate_row-requires-clause-loose : goal.push_alternate_row-requires-clause-loose
push_alternate_row-requires-clause-loose g c =
    ap (λ (p : PageFields). p.switches.compact) (sym c.page.ensures) ∙ ap (λ (w : Switches). w.compact) (sym c.switches.ensures.switches)
    ∙ c.if-switches.false

-- below the alternate row the bars are as above it
pub push_arrow_row-requires-2-clause-at : goal.push_arrow_row-requires-2-clause-at
push_arrow_row-requires-2-clause-at g c =
    rank-kept c.args.shown.now c.args.rank c.args.writer.now c.push_alternate_row.new.writer c.args.table.now _ c.requires.at
    (one-row c.args.writer.now c.push_alternate_row.new.writer _ c.in_ok-push_alternate_row.ensures)

-- without a message there is no row
pub returns-then-not-label : goal.returns-then-not-label
returns-then-not-label g c =
    let v = c.args.shown.now in
    let pen = c.args.writer.now.pen in
    let compact = pen.page.switches.compact in
    let there = label-read (sheet_at v) v.line c.args.rank c.layout.result.now c.labels-labels.result.now _ c.layout.ensures.layout
    c.labels-labels.ensures c.requires.rank in
    subst (λ (o : Option LineLabel). IfSome o (λ x. WritesRows c.args.writer.now c.args.writer.now
    (rows_of pen.page v.snippet (label_rows compact v.line (c.args.rank, x))))) (sym there)
    (record {
      drawn = rows-of v.snippet.texts v.snippet.section pen.page.number_width pen pen [] (label_rows compact v.line (c.args.rank, _))
          (sym (label-none compact v.line c.args.rank _ c.if-not-label.true)) (draws_rows_none pen);
      bars = refl;
    })

-- in the compact form the arrow row is the only one
pub returns-then-switches : goal.returns-then-switches
returns-then-switches g c =
    let v = c.args.shown.now in
    let pen = c.args.writer.now.pen in
    let page = pen.page in
    let new = c.push_arrow_row.new.writer in
    let own = label-told (sheet_at v) v.line c.args.rank c.layout.result.now c.labels-labels.result.now _ true c.layout.ensures.layout
    c.labels-labels.ensures c.requires.rank c.if-not-label.false in
    let compact : page.switches.compact ≡ true =
    ap (λ (p : PageFields). p.switches.compact) (sym c.page.ensures) ∙ ap (λ (w : Switches). w.compact) (sym c.switches.ensures.switches)
    ∙ c.if-switches.true in
    subst (λ (o : Option LineLabel). IfSome o (λ x. OnOk c.push_arrow_row.result (WritesRows c.args.writer.now new
    (rows_of page v.snippet (label_rows page.switches.compact v.line (c.args.rank, x)))))) (sym own.1.0)
    (on_ok_weaker c.push_arrow_row.result
    (λ d. record {
      drawn = rows-of v.snippet.texts v.snippet.section page.number_width pen new.pen (arrow v.line c.args.rank ∷ [])
          (label_rows page.switches.compact v.line (c.args.rank, own.0))
          (sym (ap (λ k. label_rows k v.line (c.args.rank, own.0)) compact ∙ label-one v.line c.args.rank own.0 own.1.1))
          (draws_rows_one pen new.pen (row_of page v.snippet (arrow v.line c.args.rank)) d.drawn);
      bars = d.bars;
    })
    c.push_arrow_row.ensures)

-- else the alternate row stands above it
pub returns : goal.returns
returns g c =
    let v = c.args.shown.now in
    let a = c.args.writer.now.pen in
    let b = c.push_alternate_row.new.writer.pen in
    let new = c.push_arrow_row-2.new.writer in
    let page = a.page in
    let r = c.args.rank in
    let own = label-told (sheet_at v) v.line r c.layout.result.now c.labels-labels.result.now _ true c.layout.ensures.layout
    c.labels-labels.ensures c.requires.rank c.if-not-label.false in
    let full : page.switches.compact ≡ false =
    ap (λ (p : PageFields). p.switches.compact) (sym c.page.ensures) ∙ ap (λ (w : Switches). w.compact) (sym c.switches.ensures.switches)
    ∙ c.if-switches.false in
    let d = c.in_ok-push_alternate_row.ensures in
    subst (λ (o : Option LineLabel). IfSome o (λ x. OnOk c.push_arrow_row-2.result (WritesRows c.args.writer.now new
    (rows_of page v.snippet (label_rows page.switches.compact v.line (r, x)))))) (sym own.1.0)
    (on_ok_weaker c.push_arrow_row-2.result (λ f.
    let k : DrawsRow b new.pen (row_of page v.snippet (arrow v.line r)) =
    subst (λ p. DrawsRow b new.pen (row_of p v.snippet (arrow v.line r))) (row-page a b _ d.drawn) f.drawn in
    record {
      drawn = rows-of v.snippet.texts v.snippet.section page.number_width a new.pen (alternate v.line r ∷ arrow v.line r ∷ [])
          (label_rows page.switches.compact v.line (r, own.0))
          (sym (ap (λ k. label_rows k v.line (r, own.0)) full ∙ label-two v.line r own.0 own.1.1))
          (draws_rows-append a b new.pen (row_of page v.snippet (alternate v.line r) ∷ []) (row_of page v.snippet (arrow v.line r) ∷ [])
          (draws_rows_one a b _ d.drawn) (draws_rows_one b new.pen _ k));
      bars = f.bars ∙ d.bars;
    })
    c.push_arrow_row-2.ensures)
