use Rattle.std.proofs.Common.{rules, ◌≡◌, ◌∙◌, ℕ, List, ap, map, string_bytes, subst, sym}
use Rattle.std.specs.declared.ops.Range.{Range}
use Rattle.ariadne.specs.Kinds.{kind_of as kind_of_fields}
use Rattle.ariadne.specs.Report.{ReportFields}
use Rattle.ariadne_safe.specs.SafeBuilding.{kind_in, made_of, report_of as report_in, sources_under}
use Rattle.ariadne_safe.specs.Sources.{sources_of}
use Rattle.ariadne_safe.specs.declared.sources.SafeSource.{SafeSource}
use Rattle.ariadne_show.specs.Drawn.{room_in, IsAbout, IsBare}
use Rattle.ariadne_parse.specs.declared.diagnostic.Span.{Span}
use Rattle.ariadne_parse.specs.declared.diagnostic.Proposal.{Proposal}
use Rattle.ariadne_show.specs.declared.proposed.Room.{Room}
use Rattle.ariadne_show.specs.declared.proposed.Sketch.{Sketch}
use Rattle.ariadne_show.specs.declared.found.FoundSpan.{FoundSpan}
use Rattle.ariadne_show.specs.Asides.{helps_of, notes_of, with_helps, with_notes}
use Rattle.ariadne_show.specs.FoundSpans.{files_of, found_of}
use Rattle.ariadne_show.specs.FoundLabels.{labels_of, shown_header, with_labels, AreOrdered}
use Rattle.ariadne_show.specs.DrawnProposals.{AreSketched}
use Rattle.ariadne_show.specs.ReadFiles.{sources_in}
use Rattle.ariadne_show.specs.Widths.{IsTextWidth}
use Rattle.ariadne_show.proofs.Heads.{about, begun_bare, begun_span, header_ends, new_bare, report_about, wide}
use Rattle.ariadne_show.proofs.drawing.report_of.Goals as goal

-- the head, which stays while labels, notes and helps are added
pub returns : goal.returns
returns c =
    let parsed = c.args.titled.now.parsed.now in
    let head : IsAbout c.args.style 0 parsed (string_bytes parsed.message) (made_of c.in_ok-builder.builder) =
    subst (λ (text : List ℕ). IsAbout c.args.style 0 parsed text (made_of c.in_ok-builder.builder)) c.as_str.ensures.value
    (about c.args.style parsed (kind_of_fields (kind_in c.kind-kind.result)) _ _ (made_of c.new-builder.result)
    (made_of c.in_ok-with_message.field-0) (made_of c.in_ok-builder.builder) c.as_str.result.now c.new-builder.ensures.report
    c.config_of.ensures c.kind-kind.ensures c.in_ok-with_message.ensures.report c.in_ok-builder.ensures.report) in
    let bare : IsBare (made_of c.in_ok-builder.builder) =
    begun_bare parsed (made_of c.new-builder.result) (made_of c.in_ok-with_message.field-0) (made_of c.in_ok-builder.builder) _
    (new_bare _ _ _ _ c.new-builder.ensures.report) c.in_ok-with_message.ensures.report c.in_ok-builder.ensures.report in
    let report = report_in c.finish.result in
    let built = made_of c.in_ok-builder.builder in
    let under = sources_under c.in_ok-builder.builder in
    let files = files_of c.args.shelf.now in
    let main = found_of c.args.main in
    let ordered = map found_of c.in_ok-spans.spans.items in
    let placed : AreOrdered files main.number parsed.spans.items ordered =
    subst (λ (spans : List Span). AreOrdered files main.number spans ordered) c.as_slice.ensures.value c.in_ok-spans.ensures in
    let labelled : made_of c.in_ok-builder-2.builder ≡ with_labels (labels_of built.config.index_type under parsed.severity c.args.style.is_compact ordered) built =
    c.in_ok-builder-2.ensures.report
    ∙ ap (λ (spans : List FoundSpan). with_labels (labels_of built.config.index_type under parsed.severity c.args.style.is_compact (map found_of spans)) built)
    c.as_slice-2.ensures.value in
    let width = c.in_ok-width.width in
    let sketches = c.in_ok-sketches.sketches.items in
    let room = room_in c.args.style width in
    let drawn : AreSketched room files (sources_in c.args.shelf.now) parsed.proposals.items sketches =
    subst (λ (l : List Proposal). AreSketched room files (sources_in c.args.shelf.now) l sketches) c.as_slice-3.ensures.value
    (subst (λ (room : Room). AreSketched room files (sources_in c.args.shelf.now) c.as_slice-3.result.now sketches)
    c.room_in-room.ensures c.in_ok-sketches.ensures) in
    let notes = notes_of width files parsed in
    let whole : report ≡ with_helps (helps_of width sketches parsed) (with_notes notes (wide width (made_of c.in_ok-builder-2.builder))) =
    c.finish.ensures.report ∙ c.in_ok-with_asides.ensures.report
    ∙ ap (λ (r : ReportFields (ℕ × Range ℕ)). with_helps (helps_of width c.as_slice-4.result.now parsed) (with_notes notes r))
    c.with_width-builder.ensures.report
    ∙ ap (λ (l : List Sketch). with_helps (helps_of width l parsed) (with_notes notes (wide width (made_of c.in_ok-builder-2.builder))))
    c.as_slice-4.ensures.value in
    let fits : IsTextWidth c.args.style.width under (made_of c.in_ok-builder-2.builder) width =
    subst (λ (sources : List SafeSource). IsTextWidth c.args.style.width sources (made_of c.in_ok-builder-2.builder) width)
    c.in_ok-builder-2.ensures.sources c.in_ok-width.ensures in
    let span : built.span ≡ shown_header built.config.index_type under main =
    begun_span parsed main _ _ _ _ (made_of c.new-builder.result) (made_of c.in_ok-with_message.field-0) built
    (sources_of c.sources.result.now) under (header_ends main c.max.result (search rules)) c.new-builder.ensures.report c.in_ok-with_message.ensures.report
    c.in_ok-builder.ensures.report (c.in_ok-builder.ensures.sources ∙ c.in_ok-with_message.ensures.sources
    ∙ c.new-builder.ensures.sources) in
    let begun : under ≡ sources_in c.args.shelf.now =
    c.in_ok-builder.ensures.sources ∙ c.in_ok-with_message.ensures.sources ∙ c.new-builder.ensures.sources
    ∙ c.sources.ensures in record {
      report = report_about c.args.style files parsed main ordered built (made_of c.in_ok-builder-2.builder) report width under
          (sources_in c.args.shelf.now) sketches head bare span placed labelled fits drawn whole (sym begun);
      sources = c.finish.ensures.sources ∙ c.in_ok-with_asides.ensures.sources ∙ c.with_width-builder.ensures.sources ∙ c.in_ok-builder-2.ensures.sources ∙ begun;
    }
