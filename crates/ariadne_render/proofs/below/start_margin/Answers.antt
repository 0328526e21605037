-- The bars beside the line are those beside the rows below it, but for that of its margin label.
use Rattle.std.proofs.Common.{◌≡◌, ◌∙◌, ap, inl, inr, sym}
use Rattle.std.proofs.lemmas.Bool.{true≢false}
use Rattle.std.proofs.lemmas.Result.{on_ok_weaker}
use Rattle.ariadne_picture.proofs.Rows.BarCases.{side-starts, start-side}
use Rattle.ariadne_picture.specs.Ranks.{margin_label}
use Rattle.ariadne_layout.specs.Snippets.{sheet_at}
use Rattle.ariadne_render.specs.Gutters.{GutterFields}
use Rattle.ariadne_render.proofs.GutterSteps.{beside-below, beside-below_start, margin-column-within, margin-ends}
use Rattle.ariadne_render.proofs.KnownSnippets.{rise}
use Rattle.ariadne_render.proofs.LinesQuiet.{layout-margin}
use Rattle.ariadne_render.proofs.below.start_margin.Given.{Over}
use Rattle.ariadne_render.proofs.below.start_margin.Goals.{After-margin}
use Rattle.ariadne_render.proofs.below.start_margin.Goals as goal

-- the margin label is that of the line
read : (g : Over) (c : After-margin g) → margin_label (sheet_at c.args.shown.now).labels c.args.shown.now.line ≡ c.margin.result
read g c =
    let v = c.args.shown.now in
    sym (c.margin.ensures ∙ layout-margin (sheet_at v) v.line c.layout.result.now c.layout.ensures.layout)

-- it has a column
pub set-requires : goal.set-requires
set-requires g c =
    let v = c.args.shown.now in
    let there = read g (goal.at.set-requires g c).After-margin ∙ c.in-Some.is in
    record { column = margin-column-within (sheet_at v) v.line c.in-Some.margin c.args.writer.now.gutter c.requires.at.bars there }

-- there is none
pub returns-in-None-clause-at : goal.returns-in-None-clause-at
returns-in-None-clause-at g c =
    let v = c.args.shown.now in
    let at = c.requires.at in
    let none = read g (goal.at.returns-in-None-clause-at g c).After-margin ∙ c.in-None.is in
    record {
      is_snippet = at.is_snippet;
      one_page = at.one_page;
      bars = beside-below (sheet_at v) v.line c.args.writer.now.gutter (rise v.snippet at.is_snippet) at.bars (inl none);
    }

-- it starts: its bar begins
pub returns-then-starts-clause-at : goal.returns-then-starts-clause-at
returns-then-starts-clause-at g c =
    let v = c.args.shown.now in
    let at = c.requires.at in
    let there = read g (goal.at.returns-then-starts-clause-at g c).After-margin ∙ c.in-Some.is in
    on_ok_weaker c.set.result
    (λ h. record {
      is_snippet = at.is_snippet;
      one_page = ap (λ (x : GutterFields). x.page) h ∙ at.one_page;
      bars = beside-below_start (sheet_at v) v.line c.in-Some.margin c.args.writer.now.gutter c.set.new.self (rise v.snippet at.is_snippet) at.bars
          there (start-side c.in-Some.margin.side (sym c.starts.ensures ∙ c.if-starts.true)) h;
    }) c.set.ensures

-- it ends
pub returns-else-starts-clause-at : goal.returns-else-starts-clause-at
returns-else-starts-clause-at g c =
    let v = c.args.shown.now in
    let at = c.requires.at in
    let m = c.in-Some.margin in
    let there = read g (goal.at.returns-else-starts-clause-at g c).After-margin ∙ c.in-Some.is in
    record {
      is_snippet = at.is_snippet;
      one_page = at.one_page;
      bars = beside-below (sheet_at v) v.line c.args.writer.now.gutter (rise v.snippet at.is_snippet) at.bars
          (inr (
            m,
            there,
            margin-ends (sheet_at v) v.line m there
                (λ same. true≢false (sym (side-starts m.side same) ∙ sym c.starts.ensures ∙ c.if-starts.false)),
          ));
    }
