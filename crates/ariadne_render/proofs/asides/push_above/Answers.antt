use Rattle.std.proofs.Common.{◌≡◌, ◌∙◌, ap, refl, sym}
use Rattle.std.proofs.lemmas.Result.{on_ok_weaker}
use Rattle.ariadne_picture.specs.declared.switches.Switches.{Switches}
use Rattle.ariadne_picture.specs.Pieces.{row_pieces}
use Rattle.ariadne_picture.specs.Rows.{blank}
use Rattle.ariadne_render.specs.Pages.{PageFields}
use Rattle.ariadne_render.specs.AsideKinds.{aside_of}
use Rattle.ariadne_render.proofs.AsideRows.{draws_above, draws_above_none, draws_aside_blank, starts_blank}
use Rattle.ariadne_render.proofs.KnownSnippets.{on-page}
use Rattle.ariadne_render.proofs.asides.push_above.Goals as goal

-- a compact picture has no such row
pub returns-then-switches : goal.returns-then-switches
returns-then-switches g c =
    let v = c.args.snippet.now in
    let pen = c.args.writer.now.pen in
    let same : c.switches.result.now ≡ pen.page.switches = c.switches.ensures.switches ∙ ap (λ (p : PageFields). p.switches) c.page.ensures in
    record {
      drawn = draws_above_none pen (row_pieces v.texts pen.page.number_width v.section) (blank (aside_of c.args.kind) c.args.number)
          pen.page.switches.compact (sym (ap (λ (s : Switches). s.compact) same) ∙ c.if-switches.true);
      bars = refl;
    }

-- another has a margin and a gutter alone
pub returns : goal.returns
returns g c =
    let v = c.args.snippet.now in
    let a = aside_of c.args.kind in
    let k = c.args.number in
    let at = c.requires.at in
    let pen = c.args.writer.now.pen in
    let gutter = c.args.writer.now.gutter in
    let second = c.push_blank.new.pen in
    let same : c.switches.result.now ≡ pen.page.switches = c.switches.ensures.switches ∙ ap (λ (p : PageFields). p.switches) c.page.ensures in
    let start = starts_blank pen c.push_margin.new.self second v.section.sheet gutter at.one_page at.gutter c.in_ok-push_margin.ensures
    c.in_ok-push_blank.ensures.bars c.in_ok-push_blank.ensures.blanks a k in
    on_ok_weaker c.end_row.result
    (λ h. record {
      drawn = draws_above pen c.end_row.new.self (row_pieces v.texts pen.page.number_width v.section) (blank a k) pen.page.switches.compact
          (sym (ap (λ (s : Switches). s.compact) same) ∙ c.if-switches.false)
          (draws_aside_blank pen v.texts v.section (on-page v pen.page gutter at.is_snippet at.one_page at.gutter) second c.end_row.new.self a k start h);
      bars = refl;
    })
    c.end_row.ensures
