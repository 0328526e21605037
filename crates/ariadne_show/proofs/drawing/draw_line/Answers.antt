use Rattle.std.proofs.Common.{ℕ, ◌∙◌, List, subst, sym}
use Rattle.std.specs.declared.ops.Range.{Range}
use Rattle.ariadne.specs.Kinds.{kind_of as kind_of_fields}
use Rattle.ariadne.specs.Report.{ReportFields}
use Rattle.ariadne_safe.specs.SafeBuilding.{kind_in, made_of, report_of as report_in, sources_below}
use Rattle.ariadne_show.specs.Drawn.{IsAbout, IsBare}
use Rattle.ariadne_show.specs.TextDiagnostics.{first_line}
use Rattle.ariadne_show.proofs.Chains.{head_drawn_if}
use Rattle.ariadne_show.proofs.Heads.{about, begun_bare, new_bare}
use Rattle.ariadne_show.proofs.drawing.draw_line.Goals as goal

-- the picture of a head
pub returns : goal.returns
returns g c =
    let parsed = c.args.titled.now.parsed.now in
    let head : IsAbout c.args.style 0 parsed (first_line parsed) (made_of c.in_ok-builder.builder) =
    subst (λ (text : List ℕ). IsAbout c.args.style 0 parsed text (made_of c.in_ok-builder.builder)) (c.as_str.ensures.value ∙ c.in_ok-text.ensures)
    (about c.args.style parsed (kind_of_fields (kind_in c.kind-kind.result)) _ _ (made_of c.new-builder.result)
    (made_of c.in_ok-with_message.field-0) (made_of c.in_ok-builder.builder) c.as_str.result.now c.new-builder.ensures.report
    c.config_of.ensures c.kind-kind.ensures c.in_ok-with_message.ensures.report c.in_ok-builder.ensures.report) in
    let bare : IsBare (made_of c.in_ok-builder.builder) =
    begun_bare parsed (made_of c.new-builder.result) (made_of c.in_ok-with_message.field-0) (made_of c.in_ok-builder.builder) _
    (new_bare _ _ _ _ c.new-builder.ensures.report) c.in_ok-with_message.ensures.report c.in_ok-builder.ensures.report in
    head_drawn_if c.draw_report.result c.args.style parsed (sources_below c.finish.result) (report_in c.finish.result)
    (g.W.Write.contents c.args.out.now) (g.W.Write.contents c.draw_report.new.out)
    (subst (λ (r : ReportFields (ℕ × Range ℕ)). IsAbout c.args.style 0 parsed (first_line parsed) r) (sym c.finish.ensures.report) head)
    (subst IsBare (sym c.finish.ensures.report) bare) c.draw_report.ensures
