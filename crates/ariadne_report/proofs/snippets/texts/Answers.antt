-- Each text is that of the report.
use Rattle.std.proofs.Common.{◌≡◌, ◌∙◌, ◌++◌, ap}
use Rattle.std.specs.Prelude.{codes}
use Rattle.ariadne_picture.specs.Canvas.{code_text, kind_name, texts_of}
use Rattle.ariadne_picture.specs.Report.{ConfigFields, ReportFields, switches_of}
use Rattle.ariadne_report.specs.Kinds.{shown_kind}
use Rattle.ariadne_report.proofs.snippets.texts.Goals as goal

pub returns : goal.returns
unfolding texts_of
returns g c =
    let r = c.args.report.now in
    let switches = c.switches.ensures.switches ∙ ap switches_of c.config.ensures in
    let heads = c.has_multiline_arrows.ensures ∙ ap (λ (x : ConfigFields). x.multiline_arrows) c.config-2.ensures in
    let kind : shown_kind c.report.inside.kind ≡ kind_name r.kind = ap (λ (x : ReportFields _). kind_name x.kind) c.report.view_is in
    let name = c.name.ensures ∙ kind in
    λ i. record {
      switches = switches i;
      multiline_arrows = heads i;
      kind_text = code_text (c.code.ensures i) ++ name i ++ codes ":";
      message = c.message.ensures i;
      helps = c.helps.ensures i;
      notes = c.notes.ensures i;
      messages = c.requires.messages i;
    }
