-- The bars and the table are those of the next rank.
use Rattle.std.proofs.Common.{rules, ◌∙◌, ap, refl, sym}
use Rattle.std.proofs.lemmas.Result.{on_ok_weaker}
use Rattle.ariadne_layout.specs.Snippets.{layout_at, sheet_at}
use Rattle.ariadne_render.specs.Gutters.{GutterFields}
use Rattle.ariadne_render.proofs.GutterSteps.{below-next_inline, column-within}
use Rattle.ariadne_render.proofs.KnownSnippets.{rise}
use Rattle.ariadne_render.proofs.LinesQuiet.{label-less, label-read}
use Rattle.ariadne_render.proofs.KnownLines.{below-set, table-passed}
use Rattle.ariadne_render.proofs.below.pass_label.Goals as goal

-- the label is there
pub offset_bounds-labels-rank : goal.offset_bounds-labels-rank
offset_bounds-labels-rank g c =
    let v = c.args.shown.now in
    let less = label-less (sheet_at v) v.line c.args.rank c.layout-layout.result.now c.labels-labels.result.now c.layout-layout.ensures.layout
    c.labels-labels.ensures c.requires.rank in
    search rules

pub bounds-labels-rank : goal.bounds-labels-rank
bounds-labels-rank g c =
    let v = c.args.shown.now in
    label-less (sheet_at v) v.line c.args.rank c.layout-layout.result.now c.labels-labels.result.now c.layout-layout.ensures.layout
    c.labels-labels.ensures c.requires.rank

pub pass-requires : goal.pass-requires
pass-requires g c =
    let v = c.args.shown.now in
    label-less (sheet_at v) v.line c.args.rank c.layout-layout.result.now c.layout-layout.result.now.labels c.layout-layout.ensures.layout refl
    c.requires.rank

-- a label within the line leaves the bars
pub returns-then-is_inline-clause-at : goal.returns-then-is_inline-clause-at
returns-then-is_inline-clause-at g c =
    let v = c.args.shown.now in
    let at = c.requires.at in
    let below = at.below in
    let there = label-read (sheet_at v) v.line c.args.rank c.layout-layout.result.now c.labels-labels.result.now _ c.layout-layout.ensures.layout
    c.labels-labels.ensures c.requires.rank in
    record {
      below = record {
        is_snippet = below.is_snippet;
        one_page = below.one_page;
        bars = below-next_inline (sheet_at v) v.line c.args.rank _ c.args.writer.now.gutter (rise v.snippet below.is_snippet) below.bars there
            (sym c.is_inline.ensures ∙ c.if-is_inline.true);
      };
      is_table = table-passed c.args.writer.now.pen.page.switches (layout_at v) c.layout-layout.result.now c.args.rank c.args.table.now c.pass.new.self
          c.layout-layout.ensures.layout at.is_table c.pass.ensures;
    }

-- another has a column
pub set-requires : goal.set-requires
set-requires g c =
    let v = c.args.shown.now in
    let there = label-read (sheet_at v) v.line c.args.rank c.layout-layout.result.now c.labels-labels.result.now _ c.layout-layout.ensures.layout
    c.labels-labels.ensures c.requires.rank in
    record {
      column = column-within (sheet_at v) v.line c.args.rank _ c.args.writer.now.gutter c.requires.at.below.bars there
          (sym c.is_inline.ensures ∙ c.if-is_inline.false);
    }

-- and sets its bar
pub returns-clause-at : goal.returns-clause-at
returns-clause-at g c =
    let v = c.args.shown.now in
    let at = c.requires.at in
    let below = at.below in
    let there = label-read (sheet_at v) v.line c.args.rank c.layout-layout.result.now c.labels-labels.result.now _ c.layout-layout.ensures.layout
    c.labels-labels.ensures c.requires.rank in
    on_ok_weaker c.set.result
    (λ h. record {
      below = record {
        is_snippet = below.is_snippet;
        one_page = ap (λ (x : GutterFields). x.page) h ∙ below.one_page;
        bars = below-set (sheet_at v) v.line c.args.rank _ c.args.writer.now.gutter c.set.new.self _ (rise v.snippet below.is_snippet) below.bars there
            (sym c.is_inline.ensures ∙ c.if-is_inline.false) c.starts.ensures h;
      };
      is_table = table-passed c.args.writer.now.pen.page.switches (layout_at v) c.layout-layout.result.now c.args.rank c.args.table.now c.pass.new.self
          c.layout-layout.ensures.layout at.is_table c.pass.ensures;
    }) c.set.ensures
