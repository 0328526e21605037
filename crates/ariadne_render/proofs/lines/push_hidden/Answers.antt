-- The row in place of hidden lines, where they begin.
use Rattle.std.proofs.Common.{◌≡◌, ◌∙◌, sym, ap, arith, length, true, false, [], ◌∷◌}
use Rattle.std.proofs.lemmas.Result.{on_ok_weaker}
use Rattle.ariadne_base.specs.Locations.{line_offset}
use Rattle.ariadne_picture.specs.declared.switches.Switches.{Switches}
use Rattle.ariadne_picture.specs.Ranks.{Sheet}
use Rattle.ariadne_picture.specs.Rows.{bare, gap, is_inside, line_rows}
use Rattle.ariadne_layout.specs.SnippetLabels.{LabelsFields, is_held}
use Rattle.ariadne_layout.specs.Snippets.{sheet_in}
use Rattle.ariadne_layout.proofs.Insides.{inside-found}
use Rattle.ariadne_render.proofs.Drawn.{draws_rows_none, draws_rows_one, page_kept}
use Rattle.ariadne_render.specs.RowTexts.{row_of}
use Rattle.ariadne_render.proofs.KnownSnippets.{gutter-switches, on-page}
use Rattle.ariadne_render.proofs.LinesHidden.{holders-touch, run-bare, run-gap, run-none}
use Rattle.ariadne_render.proofs.LinesRows.{rows-of}
use Rattle.ariadne_render.proofs.KnownLines.{beside-kept, one-row, page-compact}
use Rattle.ariadne_render.proofs.lines.push_hidden.Given.{Over}
use Rattle.ariadne_render.proofs.lines.push_hidden.Goals.{After-is_inside}
use Rattle.ariadne_render.proofs.lines.push_hidden.Goals as goal

-- the code tests whether the first of them begins inside a label
told : (g : Over) (c : After-is_inside g) → c.is_inside.result ≡ is_inside (sheet_in c.args.snippet.now) c.args.line
told g c =
    let s : Sheet = sheet_in c.args.snippet.now in
    let l = c.args.line in
    let at = c.requires.at in
    let is = at.above.is_snippet in
    let there = c.in_ok-go_to.ensures.ok in
    c.is_inside.ensures ∙ (λ i. is_held (there i).labels (there i).line (c.line_offset.ensures i))
    ∙ ap (λ ls. is_held ls l (line_offset length s.lines l)) at.labels
    ∙ inside-found s l (is.hidden_some l c.requires.within c.requires.hidden) (holders-touch s l is.over)

-- the lists have gone on to it
own : (g : Over) (c : After-is_inside g) → c.go_to.new.self.labels ≡ (sheet_in c.args.snippet.now).labels
own g c = ap (λ (x : LabelsFields). x.labels) c.in_ok-go_to.ensures.ok ∙ c.requires.at.labels

reached : (g : Over) (c : After-is_inside g) → c.go_to.new.self.line ≡ c.args.line
reached g c = ap (λ (x : LabelsFields). x.line) c.in_ok-go_to.ensures.ok

-- ---- it does

pub push_gap_row-requires : goal.push_gap_row-requires
push_gap_row-requires g c = record { at = c.requires.at.above; hidden = c.requires.hidden }

pub returns-then-is_inside-clause-at : goal.returns-then-is_inside-clause-at
returns-then-is_inside-clause-at g c =
    let b = (goal.at.returns-then-is_inside-clause-at g c).After-is_inside in
    let at = c.requires.at in
    let line = reached g b in
    on_ok_weaker c.push_gap_row.result
    (λ d. record {
      above = beside-kept c.args.snippet.now c.args.line c.args.writer.now c.push_gap_row.new.writer _ at.above
          (one-row c.args.writer.now c.push_gap_row.new.writer _ d);
      labels = own g b;
      onward = omega (arith, line);
      known = at.known;
    })
    c.push_gap_row.ensures

pub returns-then-is_inside-clause-drawn : goal.returns-then-is_inside-clause-drawn
returns-then-is_inside-clause-drawn g c =
    let v = c.args.snippet.now in
    let s : Sheet = sheet_in v in
    let l = c.args.line in
    let pen = c.args.writer.now.pen in
    let new = c.push_gap_row.new.writer.pen in
    let inside : is_inside s l ≡ true = sym (told g (goal.at.returns-then-is_inside-clause-drawn g c).After-is_inside) ∙ c.if-is_inside.true in
    on_ok_weaker c.push_gap_row.result
    (λ d. rows-of v.texts v.section pen.page.number_width pen new (gap l ∷ []) (line_rows s l)
    (run-gap s l c.requires.hidden c.requires.run inside) (draws_rows_one pen new (row_of pen.page v (gap l)) d.drawn))
    c.push_gap_row.ensures

-- ---- it does not, in the compact form

pub returns-then-switches-clause-at : goal.returns-then-switches-clause-at
returns-then-switches-clause-at g c =
    let b = (goal.at.returns-then-switches-clause-at g c).After-is_inside in
    let line = reached g b in
    record { above = c.requires.at.above; labels = own g b; onward = omega (arith, line); known = c.requires.at.known }

pub returns-then-switches-clause-drawn : goal.returns-then-switches-clause-drawn
returns-then-switches-clause-drawn g c =
    let v = c.args.snippet.now in
    let s : Sheet = sheet_in v in
    let l = c.args.line in
    let pen = c.args.writer.now.pen in
    let page = pen.page in
    let above = c.requires.at.above in
    let outside : is_inside s l ≡ false = sym (told g (goal.at.returns-then-switches-clause-drawn g c).After-is_inside) ∙ c.if-is_inside.false in
    let compact : s.switches.compact ≡ true =
    ap (λ (w : Switches). w.compact) (gutter-switches s page c.args.writer.now.gutter above.one_page above.bars.sheet)
    ∙ page-compact page c.page.result.now c.switches.result.now true c.page.ensures c.switches.ensures.switches c.if-switches.true in
    rows-of v.texts v.section page.number_width pen pen [] (line_rows s l)
    (run-none s l c.requires.hidden c.requires.run outside compact) (draws_rows_none pen)

-- ---- it does not

pub push_bare_row-requires : goal.push_bare_row-requires
push_bare_row-requires g c =
    let above = c.requires.at.above in
    on-page c.args.snippet.now c.args.writer.now.pen.page c.args.writer.now.gutter above.is_snippet above.one_page above.bars.sheet

pub returns-clause-at : goal.returns-clause-at
returns-clause-at g c =
    let b = (goal.at.returns-clause-at g c).After-is_inside in
    let at = c.requires.at in
    let line = reached g b in
    on_ok_weaker c.push_bare_row.result
    (λ d. record {
      above = record {
        is_snippet = at.above.is_snippet;
        one_page = at.above.one_page ∙ sym (page_kept c.args.writer.now.pen c.push_bare_row.new.pen _ d);
        bars = at.above.bars;
      };
      labels = own g b;
      onward = omega (arith, line);
      known = at.known;
    })
    c.push_bare_row.ensures

pub returns-clause-drawn : goal.returns-clause-drawn
returns-clause-drawn g c =
    let v = c.args.snippet.now in
    let s : Sheet = sheet_in v in
    let l = c.args.line in
    let pen = c.args.writer.now.pen in
    let page = pen.page in
    let above = c.requires.at.above in
    let outside : is_inside s l ≡ false = sym (told g (goal.at.returns-clause-drawn g c).After-is_inside) ∙ c.if-is_inside.false in
    let full : s.switches.compact ≡ false =
    ap (λ (w : Switches). w.compact) (gutter-switches s page c.args.writer.now.gutter above.one_page above.bars.sheet)
    ∙ page-compact page c.page.result.now c.switches.result.now false c.page.ensures c.switches.ensures.switches c.if-switches.false in
    on_ok_weaker c.push_bare_row.result
    (λ d. rows-of v.texts v.section page.number_width pen c.push_bare_row.new.pen (bare l ∷ []) (line_rows s l)
    (run-bare s l c.requires.hidden c.requires.run outside full) (draws_rows_one pen c.push_bare_row.new.pen (row_of page v (bare l)) d))
    c.push_bare_row.ensures
