-- A line none of whose labels has a message: the row with their underlines, or none.
use Rattle.std.proofs.Common.{◌≡◌, ◌∙◌, ◌<◌, ◌^◌, false, length, refl, sym, ap, subst, arith, [], ◌∷◌}
use Rattle.std.specs.List.{list_any}
use Rattle.std.proofs.lemmas.Result.{on_ok_weaker}
use Rattle.ariadne_picture.specs.declared.label_info.LineLabel.{LineLabel}
use Rattle.ariadne_picture.specs.declared.switches.Switches.{Switches}
use Rattle.ariadne_picture.specs.Columns.{Layout, arrow_len}
use Rattle.ariadne_picture.specs.Ranks.{Sheet}
use Rattle.ariadne_picture.specs.Rows.{alternate, is_lone, lone_rows}
use Rattle.ariadne_picture.proofs.Rows.LoneRows.{lone}
use Rattle.ariadne_layout.specs.Tables.{IsTable}
use Rattle.ariadne_layout.specs.Snippets.{labels_at, layout_at, sheet_at}
use Rattle.ariadne_render.specs.Pages.{PageFields}
use Rattle.ariadne_render.proofs.Drawn.{draws_rows_none, draws_rows_one}
use Rattle.ariadne_render.specs.RowTexts.{row_of}
use Rattle.ariadne_render.proofs.KnownSnippets.{gutter-switches, rise}
use Rattle.ariadne_render.proofs.LinesLayout.{places-fit}
use Rattle.ariadne_render.proofs.LinesQuiet.{layout-labels, quiet-bars, quiet-table, lone-row, no-lone-row, lone-asked}
use Rattle.ariadne_render.proofs.LinesRows.{rows-of}
use Rattle.ariadne_render.proofs.below.push_lone_row.Given.{Over}
use Rattle.ariadne_render.proofs.below.push_lone_row.Goals.{After-is_lone}
use Rattle.ariadne_render.proofs.below.push_lone_row.Goals as goal

-- the code tests whether the line has the row
told : (g : Over) (c : After-is_lone g) → is_lone (sheet_at c.args.shown.now) c.args.shown.now.line ≡ c.is_lone.result
told g c =
    let v = c.args.shown.now in
    let page = c.args.writer.now.pen.page in
    let asked : c.switches.result.now ≡ page.switches = c.switches.ensures.switches ∙ ap (λ (p : PageFields). p.switches) c.page.ensures in
    let same = gutter-switches (sheet_at v) page c.args.writer.now.gutter c.requires.at.one_page c.requires.at.bars.sheet in
    sym (lone-asked (sheet_at v) v.line c.switches.result.now c.layout-layout.result.now (same ∙ sym asked) c.layout-layout.ensures.layout)
    ∙ sym c.is_lone.ensures

-- it has none
pub returns-then-not-is_lone : goal.returns-then-not-is_lone
returns-then-not-is_lone g c =
    let v = c.args.shown.now in
    let page = c.args.writer.now.pen.page in
    let pen = c.args.writer.now.pen in
    let off = told g (goal.at.returns-then-not-is_lone g c).After-is_lone ∙ c.if-not-is_lone.true in
    record {
      drawn = rows-of v.snippet.texts v.snippet.section page.number_width pen pen [] (lone_rows (sheet_at v) v.line)
          (sym (no-lone-row (sheet_at v) v.line off)) (draws_rows_none pen);
      bars = refl;
    }

-- its places fit
pub fill-requires-clause-places_fit : goal.fill-requires-clause-places_fit
fill-requires-clause-places_fit g c =
    let v = c.args.shown.now in
    let is = c.layout-layout.ensures.is in
    subst (λ (y : Layout). arrow_len c.switches-2.result.now y < 2 ^ 64) (sym c.layout-layout.ensures.layout)
    (places-fit c.switches-2.result.now (sheet_at v) v.line is.places_fit is.over c.layout-layout.ensures.within)

-- its table and its bars are those of the rank behind all labels
pub push_alternate_row-requires-clause-at : goal.push_alternate_row-requires-clause-at
push_alternate_row-requires-clause-at g c =
    let v = c.args.shown.now in
    let s : Sheet = sheet_at v in
    let l = v.line in
    let page = c.args.writer.now.pen.page in
    let at = c.requires.at in
    let rank = length c.labels.result.now in
    let laid = c.layout-layout.ensures.layout in
    let n : rank ≡ length (labels_at v) = ap length (c.labels.ensures ∙ layout-labels s l c.layout-layout.result.now laid) in
    let asked : c.switches-2.result.now ≡ page.switches = c.switches-2.ensures.switches ∙ ap (λ (p : PageFields). p.switches) c.page-2.ensures in
    let filled : IsTable page.switches (layout_at v) 0 c.fill.new.self =
    subst (λ (w : Switches). IsTable w (layout_at v) 0 c.fill.new.self) asked
    (subst (λ (y : Layout). IsTable c.switches-2.result.now y 0 c.fill.new.self) laid c.in_ok-fill.ensures) in
    let silent : list_any (λ (x : LineLabel). x.info.has_message) (layout_at v).labels ≡ false =
    ap (list_any (λ (x : LineLabel). x.info.has_message)) (layout-labels s l (layout_at v) refl) ∙ c.requires.silent in
    record {
      below = record {
        is_snippet = at.is_snippet;
        one_page = at.one_page;
        bars = quiet-bars s l rank c.args.writer.now.gutter (rise v.snippet at.is_snippet) at.bars c.requires.silent (omega arith);
      };
      is_table = quiet-table page.switches (layout_at v) rank c.fill.new.self silent filled;
    }

-- the page is not compact
pub push_alternate_row-requires-clause-loose : goal.push_alternate_row-requires-clause-loose
push_alternate_row-requires-clause-loose g c =
    let v = c.args.shown.now in
    let at = c.requires.at in
    let on = told g (goal.at.push_alternate_row-requires-clause-loose g c).After-is_lone ∙ c.if-not-is_lone.false in
    ap (λ (w : Switches). w.compact) (sym (gutter-switches (sheet_at v) c.args.writer.now.pen.page c.args.writer.now.gutter at.one_page at.bars.sheet))
    ∙ (lone (sheet_at v) v.line on).loose

-- it has one
pub returns : goal.returns
returns g c =
    let v = c.args.shown.now in
    let s : Sheet = sheet_at v in
    let l = v.line in
    let pen = c.args.writer.now.pen in
    let page = pen.page in
    let new = c.push_alternate_row.new.writer in
    let on = told g (goal.at.returns g c).After-is_lone ∙ c.if-not-is_lone.false in
    let rank = length c.labels.result.now in
    let n : rank ≡ length (labels_at v) = ap length (c.labels.ensures ∙ layout-labels s l c.layout-layout.result.now c.layout-layout.ensures.layout) in
    on_ok_weaker c.push_alternate_row.result (λ d. record {
      drawn = rows-of v.snippet.texts v.snippet.section page.number_width pen new.pen (alternate l rank ∷ []) (lone_rows s l)
          (sym (lone-row s l on ∙ ap (λ k. alternate l k ∷ []) (sym n)))
          (draws_rows_one pen new.pen (row_of page v.snippet (alternate l rank)) d.drawn);
      bars = d.bars;
    })
    c.push_alternate_row.ensures
