-- A location may add a span to those so far, and the text is for the first alone.
use Rattle.std.proofs.Common.{◌≡◌, ◌+◌, ◌∙◌, ◌++◌, [], ap, drop, rules, sym, append-nil}
use Rattle.std.specs.Prelude.{map}
use Rattle.std.specs.Option.{option_to_list}
use Rattle.std.proofs.lemmas.List.{at_drop_all}
use Rattle.serde_json.specs.View.{items_view, view}
use Rattle.ariadne_parse.specs.Gcc.{noted_span, with_noted}
use Rattle.ariadne_parse.specs.Spans.{seen}
use Rattle.ariadne_parse.proofs.Loops.{grown_by, next_first}
use Rattle.ariadne_parse.proofs.gcc.push_noted_spans.Goals as goal
use Rattle.ariadne_parse.proofs.gcc.push_noted_spans.Goals.{in-Some+in_ok-push, in_default}

pub loop-location_value-preserved : goal.loop-location_value-preserved
loop-location_value-preserved c =
    let items = c.loop-location_value.spans.items in
    let own = c.loop-location_value.own_text.now in
    let i = c.loop-location_value.location_value-index in
    let grown : c.match-branch-2.spans.items ≡ items ++ option_to_list c.in_ok-span.field-0 =
    elim c.match-branch-2.branch [
      | in-Some+in_ok-push w ↦
          ap (λ v. v.items) w.spans-is ∙ w.in_ok-push.ensures.items ∙ ap (λ o. items ++ option_to_list o) (sym w.in-Some.is)
      | in_default w ↦
          ap (λ v. v.items) w.spans-is ∙ sym (append-nil items) ∙ ap (λ o. items ++ option_to_list o) (sym w.in_default.is)
    ] in
    record {
      text = search rules;
      spans = ap (λ spans. with_noted spans [] (items_view (drop (i + 1) c.args.location_values.now)))
          (grown_by seen items c.match-branch-2.spans.items c.in_ok-span.field-0
          (noted_span (map seen items) own (view c.location_value-item.result)) grown
          (c.in_ok-span.ensures
          ∙ ap (λ spans. noted_span (map seen spans) own (view c.location_value-item.result)) c.as_slice.ensures.value))
          ∙ sym (next_first (λ l. with_noted (map seen items) own (items_view l)) c.args.location_values.now i
          c.location_value-item.result c.loop-location_value-test.true c.location_value-item.is)
          ∙ c.loop-location_value.invariant.spans;
    }

pub returns : goal.returns
returns c =
    sym (at_drop_all (λ l. with_noted (map seen c.loop-location_value.spans.items) c.loop-location_value.own_text.now (items_view l))
    c.args.location_values.now c.loop-location_value.location_value-index c.loop-location_value-test.false)
    ∙ c.loop-location_value.invariant.spans
