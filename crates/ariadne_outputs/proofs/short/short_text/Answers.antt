use Rattle.std.proofs.Common.{◌≡◌, ◌∙◌, ◌++◌, ap, string_bytes, sym}
use Rattle.std.specs.Prelude.{option_map}
use Rattle.std.specs.List.{flat_map}
use Rattle.std.proofs.lemmas.List.Folds.{flat_map-map}
use Rattle.ariadne_outputs.specs.Located.{first_of, located_span_of, located_spans_of}
use Rattle.ariadne_outputs.specs.Short.{head_row, main_location, note_rows, span_row}
use Rattle.ariadne_outputs.proofs.Related.{first_is}
use Rattle.ariadne_outputs.proofs.Rows.{four_added}
use Rattle.ariadne_outputs.proofs.short.short_text.Goals as goal

-- the head, the spans, the notes and the helps
pub returns : goal.returns
returns c =
    let spans = c.args.spans.now in
    let parsed = c.args.parsed.now in
    let location : string_bytes c.in_ok-location.location ≡ main_location (first_of (located_spans_of spans)) =
    c.in_ok-location.ensures ∙ ap (λ o. main_location (option_map located_span_of o)) c.first.ensures.value ∙ ap main_location (first_is spans) in
    let main = main_location (first_of (located_spans_of spans)) in
    four_added (string_bytes c.new-text.result) (string_bytes c.push_head.new.text) (string_bytes c.push_spans.new.text)
    (string_bytes c.push_notes.new.text) (string_bytes c.push_notes-2.new.text) (head_row main parsed)
    (flat_map span_row (located_spans_of spans)) (note_rows main parsed.notes.items) (note_rows main parsed.helps.items)
    c.new-text.ensures.bytes
    (c.in_ok-push_head.ensures
    ∙ ap (λ s. string_bytes c.new-text.result ++ head_row s parsed) (c.as_str.ensures.value ∙ location))
    (c.in_ok-push_spans.ensures
    ∙ ap (λ t. string_bytes c.push_head.new.text ++ t) (sym (flat_map-map span_row located_span_of spans)))
    (c.in_ok-push_notes.ensures
    ∙ ap (λ s. string_bytes c.push_spans.new.text ++ note_rows s c.as_slice.result.now) (c.as_str-2.ensures.value ∙ location)
    ∙ ap (λ ns. string_bytes c.push_spans.new.text ++ note_rows main ns) c.as_slice.ensures.value)
    (c.in_ok-push_notes-2.ensures
    ∙ ap (λ s. string_bytes c.push_notes.new.text ++ note_rows s c.as_slice-2.result.now) (c.as_str-3.ensures.value ∙ location)
    ∙ ap (λ ns. string_bytes c.push_notes.new.text ++ note_rows main ns) c.as_slice-2.ensures.value)
