use Rattle.std.proofs.Common.{◌≡◌, ◌∙◌, ◌++◌, ap, string_bytes, sym}
use Rattle.std.specs.Prelude.{option_map}
use Rattle.std.specs.List.{flat_map}
use Rattle.std.proofs.lemmas.List.Folds.{flat_map-map}
use Rattle.ariadne_outputs.specs.Github.{command, command_word, notice_of, span_properties, with_title}
use Rattle.ariadne_outputs.specs.Located.{first_of, located_span_of, located_spans_of, others_of, whole_of}
use Rattle.ariadne_outputs.proofs.Related.{first_is, others_are}
use Rattle.ariadne_outputs.proofs.Rows.{both_added}
use Rattle.ariadne_outputs.proofs.github.github_text.Goals as goal

-- the diagnostic, and its notices
pub returns : goal.returns
returns c =
    let spans = c.args.spans.now in
    let parsed = c.args.parsed.now in
    let main = first_of (located_spans_of spans) in
    let first : option_map located_span_of _ ≡ main = ap (option_map located_span_of) c.first-main.ensures.value ∙ first_is spans in
    let properties : string_bytes c.in_ok-properties.properties ≡ with_title (span_properties main) parsed.code =
    c.in_ok-properties.ensures ∙ ap (λ o. with_title (span_properties o) parsed.code) first in
    let message : string_bytes c.in_ok-message.message ≡ whole_of parsed main =
    c.in_ok-message.ensures ∙ ap (whole_of parsed) first in
    let old = string_bytes c.new-text.result in
    both_added old (string_bytes c.push_command.new.text) (string_bytes c.push_notices.new.text)
    (command (command_word parsed.severity) (with_title (span_properties main) parsed.code) (whole_of parsed main))
    (flat_map notice_of (others_of (located_spans_of spans))) c.new-text.ensures.bytes
    (c.in_ok-push_command.ensures
    ∙ ap (λ w. old ++ command w c.as_str.result.now c.as_str-2.result.now) c.command_word-word.ensures
    ∙ ap (λ p. old ++ command (command_word parsed.severity) p c.as_str-2.result.now) (c.as_str.ensures.value ∙ properties)
    ∙ ap (λ m. old ++ command (command_word parsed.severity) (with_title (span_properties main) parsed.code) m)
    (c.as_str-2.ensures.value ∙ message))
    (c.in_ok-push_notices.ensures
    ∙ ap (λ t. string_bytes c.push_command.new.text ++ t)
    (sym (flat_map-map notice_of located_span_of c.other_spans.result.now)
    ∙ ap (λ ps. flat_map notice_of (located_spans_of ps)) c.other_spans.ensures
    ∙ ap (flat_map notice_of) (others_are spans)))
