-- The source row of a line, and the rows below it.
use Rattle.std.proofs.Common.{◌≡◌, ◌∙◌, ◌<◌, ◌≤◌, ◌^◌, [], ◌∷◌, ◌++◌, ap, arith, length, subst, sym, List}
use Rattle.std.specs.Prelude.{option_to_list, slice_range}
use Rattle.std.specs.List.{enumerate_from}
use Rattle.std.specs.Str.{drop_trailing_whitespace}
use Rattle.std.proofs.lemmas.Result.{on_ok_weaker}
use Rattle.ariadne_picture.specs.declared.label_info.LabelInfo.{LabelInfo}
use Rattle.ariadne_picture.specs.declared.switches.Switches.{Switches}
use Rattle.ariadne_picture.specs.Columns.{sights_of}
use Rattle.ariadne_picture.specs.Lists.{joined}
use Rattle.ariadne_picture.specs.Ranks.{Sheet, line_labels}
use Rattle.ariadne_picture.specs.Rows.{label_rows, line_rows, lone_rows, source}
use Rattle.ariadne_layout.specs.Cuts.{sights_in}
use Rattle.ariadne_layout.specs.Tables.{tab_columns}
use Rattle.ariadne_layout.specs.declared.stretches.Stretch.{Stretch}
use Rattle.ariadne_layout.specs.SnippetLabels.{events_of, labels_of, margin_of, ranked}
use Rattle.ariadne_layout.specs.Snippets.{LineFields, labels_at, layout_at, sheet_at, sheet_in}
use Rattle.ariadne_render.specs.Pages.{DrawsRows, PageFields, PenFields}
use Rattle.ariadne_render.proofs.Drawn.{draws_rows_one}
use Rattle.ariadne_render.specs.Gutters.{IsBelow}
use Rattle.ariadne_render.specs.RowTexts.{row_of, rows_of}
use Rattle.ariadne_render.specs.Writers.{ArePaintsAt, IsBesideAt, WritesRow}
use Rattle.ariadne_render.proofs.GutterSteps.{below-beside}
use Rattle.ariadne_render.proofs.KnownSnippets.{gutter-switches, rise}
use Rattle.ariadne_render.proofs.KnownLines.{beside-kept, one-row}
use Rattle.ariadne_render.proofs.LinesLayout.{layout-is, margin-there, ranked-there}
use Rattle.ariadne_render.proofs.LinesQuiet.{layout-text}
use Rattle.ariadne_render.proofs.LinesRows.{line-shown, row-page}
use Rattle.ariadne_render.proofs.LinesWalk.{names-append}
use Rattle.ariadne_render.proofs.lines.push_line.Given.{Over}
use Rattle.ariadne_render.proofs.lines.push_line.Goals.{In_ok-push_source_row}
use Rattle.ariadne_render.proofs.lines.push_line.Goals as goal

-- ---- the layout of the line

-- its events are there
pub rank-requires : goal.rank-requires
rank-requires g c = record {
  range = c.requires.events.range;
  within = subst (λ (ls : List LabelInfo). c.args.to ≤ length (events_of ls)) (sym c.requires.at.labels) c.requires.events.within;
}

-- what is remembered is of its source
pub line_text-text-requires-clause-known : goal.line_text-text-requires-clause-known
line_text-text-requires-clause-known g c = c.known_bytes.ensures (sheet_in c.args.snippet.now).lines c.requires.at.known

-- its parts stand apart
pub new-layout-requires : goal.new-layout-requires
new-layout-requires g c = record { apart = c.in_ok-parts.ensures.apart }

-- the layout is that of the line
pub new-shown-requires-clause-layout : goal.new-shown-requires-clause-layout
new-shown-requires-clause-layout g c =
    let s : Sheet = sheet_in c.args.snippet.now in
    let l = c.args.line in
    let from = c.args.from in
    let to = c.args.to in
    let at = c.requires.at in
    let there = c.requires.events.there in
    let margin = c.in_ok-margin.margin in
    let offset = c.line_offset-offset.result in
    let text = c.line_text-text.result in
    let labels = c.deref-2.result.now in
    let switches : c.switches.result.now ≡ s.switches =
    c.switches.ensures.switches ∙ ap (λ (p : PageFields). p.switches) c.page.ensures
    ∙ sym (gutter-switches s c.args.writer.now.pen.page c.args.writer.now.gutter at.above.one_page at.above.bars.sheet) in
    let listed : c.deref.result.now ≡ labels = c.deref.ensures.value ∙ sym c.deref-2.ensures.value in
    layout-is s l c.new-layout.result margin labels offset text (sights_in c.in_ok-parts.parts.now (length (drop_trailing_whitespace text)))
    c.new-layout.ensures
    (c.in_ok-margin.ensures.margin ∙ ap (λ ls. margin_of (labels_of ls (slice_range (events_of ls) from to))) at.labels
    ∙ margin-there s.labels l from to there)
    (c.deref-2.ensures.value ∙ c.in_ok-margin.ensures.labels ∙ ap (λ ls. ranked (labels_of ls (slice_range (events_of ls) from to))) at.labels
    ∙ ranked-there s.labels l from to there)
    c.line_offset-offset.ensures c.line_text-text.ensures
    (c.in_ok-parts.ensures.sights
    ∙ (λ i. sights_of (switches i) offset (option_to_list margin ++ listed i) (drop_trailing_whitespace text)))

-- ---- the source row

-- the bars beside the line stand, and its colours are found
pub push_source_row-requires : goal.push_source_row-requires
push_source_row-requires g c =
    let w : LineFields = c.new-shown.result in
    record {
      at = subst (λ (u : LineFields). IsBesideAt u.snippet u.line c.args.writer.now) (sym c.new-shown.ensures) c.requires.at.above;
      paints = λ on. subst (λ (ps : List Stretch). ArePaintsAt w ps) (sym c.deref-3.ensures.value) (c.in_ok-find_paints.ensures.paints on);
    }

-- it is that of the line
source-written : (g : Over) (c : In_ok-push_source_row g)
    → WritesRow c.args.writer.now c.push_source_row.new.writer (row_of c.args.writer.now.pen.page c.args.snippet.now (source c.args.line))
source-written g c =
    subst (λ (u : LineFields). WritesRow c.args.writer.now c.push_source_row.new.writer (row_of c.args.writer.now.pen.page u.snippet (source u.line)))
    c.new-shown.ensures c.in_ok-push_source_row.ensures.drawn

-- the page stays
page-kept : (g : Over) (c : In_ok-push_source_row g) → c.push_source_row.new.writer.pen.page ≡ c.args.writer.now.pen.page
page-kept g c = row-page c.args.writer.now.pen c.push_source_row.new.writer.pen _ (source-written g c).drawn

-- ---- the rows below it

-- the bars stand as they did
pub start_margin-requires : goal.start_margin-requires
start_margin-requires g c =
    let b = (goal.at.start_margin-requires g c).In_ok-push_source_row in
    record {
      at = subst (λ (u : LineFields). IsBesideAt u.snippet u.line c.push_source_row.new.writer) (sym c.new-shown.ensures)
          (beside-kept c.args.snippet.now c.args.line c.args.writer.now c.push_source_row.new.writer _ c.requires.at.above
          (one-row c.args.writer.now c.push_source_row.new.writer _ (source-written g b)));
    }

-- the columns of the tabs fit
pub push_rows_below-requires-clause-columns_fit : goal.push_rows_below-requires-clause-columns_fit
push_rows_below-requires-clause-columns_fit g c =
    let b = (goal.at.push_rows_below-requires-clause-columns_fit g c).In_ok-push_source_row in
    let kept = ap (λ (x : PenFields). x.page) c.in_ok-start_margin.ensures.pen ∙ page-kept g b in
    subst (λ (p : PageFields). tab_columns p.switches (layout_at c.new-shown.result) < 2 ^ 63) (sym kept) c.in_ok-push_source_row.ensures.tabs

-- the bars are those of the first rank
pub push_rows_below-requires-clause-at : goal.push_rows_below-requires-clause-at
push_rows_below-requires-clause-at g c = c.in_ok-start_margin.ensures.at

-- ---- the line below it

-- the lists are at it
pub returns-clause-at : goal.returns-clause-at
returns-clause-at g c =
    let v = c.args.snippet.now in
    let s : Sheet = sheet_in v in
    let l = c.args.line in
    let at = c.requires.at in
    let e = c.new-shown.ensures in
    let line = ap (λ (u : LineFields). u.line) e in
    let reached = c.in_ok-find_paints.ensures.onward in
    let text = layout-text s l c.layout.result.now (c.layout.ensures.layout ∙ ap layout_at e) in
    on_ok_weaker c.push_rows_below.result
    (λ h. record {
      above = record {
        is_snippet = at.above.is_snippet;
        one_page = h.one_page;
        bars = below-beside s l c.push_rows_below.new.writer.gutter (rise v at.above.is_snippet)
            (subst (λ (u : LineFields). IsBelow (sheet_at u) u.line (length (labels_at u)) c.push_rows_below.new.writer.gutter) e h.bars);
      };
      labels = c.in_ok-find_paints.ensures.labels ∙ at.labels;
      onward = omega (arith, reached, line);
      known = c.remember.ensures s.lines text at.known;
    }) c.push_rows_below.ensures.at

-- the rows of the line are written
pub returns-clause-drawn : goal.returns-clause-drawn
returns-clause-drawn g c =
    let v = c.args.snippet.now in
    let s : Sheet = sheet_in v in
    let l = c.args.line in
    let pen = c.args.writer.now.pen in
    let page = pen.page in
    let above = c.requires.at.above in
    let mid = c.push_source_row.new.writer.pen in
    let new = c.push_rows_below.new.writer.pen in
    let b = (goal.at.returns-clause-drawn g c).In_ok-push_source_row in
    let same = gutter-switches s page c.args.writer.now.gutter above.one_page above.bars.sheet in
    let rows = λ (k : Switches). joined (label_rows k.compact l) (enumerate_from 0 (line_labels s.labels l)) ++ lone_rows s l in
    on_ok_weaker c.push_rows_below.result
    (λ d.
    let from = subst (λ (x : PenFields). DrawsRows x new (rows_of x.page c.new-shown.result.snippet
    (joined (label_rows x.page.switches.compact c.new-shown.result.line) (enumerate_from 0 (labels_at c.new-shown.result))
    ++ lone_rows (sheet_at c.new-shown.result) c.new-shown.result.line))) c.in_ok-start_margin.ensures.pen d in
    let own = subst (λ (u : LineFields). DrawsRows mid new (rows_of mid.page u.snippet (joined (label_rows mid.page.switches.compact u.line)
    (enumerate_from 0 (labels_at u)) ++ lone_rows (sheet_at u) u.line))) c.new-shown.ensures from in
    let below = subst (λ (p : PageFields). DrawsRows mid new (rows_of p v (rows p.switches))) (page-kept g b) own in
    names-append v.texts v.section page.number_width pen mid new (source l ∷ []) (rows page.switches) (line_rows s l)
    (ap (λ (k : Switches). source l ∷ rows k) (sym same) ∙ line-shown s l c.requires.shown)
    (draws_rows_one pen mid _ (source-written g b).drawn) below)
    c.push_rows_below.ensures.drawn
