-- A location may add a span to those so far, and the diagnostic is about the first alone.
use Rattle.std.proofs.Common.{◌≡◌, ◌+◌, ◌∙◌, ◌++◌, false, ap, drop, refl, sym, append-nil}
use Rattle.std.specs.Option.{option_to_list}
use Rattle.std.specs.List.{cons_option}
use Rattle.serde_json.specs.View.{items_view, view}
use Rattle.ariadne_parse.specs.Gcc.{location_value_spans, own_location_value}
use Rattle.ariadne_parse.specs.Spans.{seen}
use Rattle.ariadne_parse.proofs.Loops.{all_made, one_perhaps}
use Rattle.ariadne_parse.proofs.gcc.push_location_values.Goals as goal
use Rattle.ariadne_parse.proofs.gcc.push_location_values.Goals.{in-Some+in_ok-push, in_default}

pub loop-location_value-preserved : goal.loop-location_value-preserved
loop-location_value-preserved c =
    let items = c.loop-location_value.spans.items in
    let i = c.loop-location_value.location_value-index in
    let step = own_location_value c.loop-location_value.is_first (view c.location_value-item.result) in
    let grown : c.match-branch-2.spans.items ≡ items ++ option_to_list c.in_ok-span.field-0 =
    elim c.match-branch-2.branch [
      | in-Some+in_ok-push w ↦
          ap (λ v. v.items) w.spans-is ∙ w.in_ok-push.ensures.items ∙ ap (λ o. items ++ option_to_list o) (sym w.in-Some.is)
      | in_default w ↦
          ap (λ v. v.items) w.spans-is ∙ sym (append-nil items) ∙ ap (λ o. items ++ option_to_list o) (sym w.in_default.is)
    ] in
    let later : c.match-branch-2.is_first ≡ false =
    elim c.match-branch-2.branch [ in-Some+in_ok-push w ↦ w.is_first-is | in_default w ↦ w.is_first-is ] in
    one_perhaps (λ l. location_value_spans c.loop-location_value.is_first (items_view l))
    (λ l. location_value_spans c.match-branch-2.is_first (items_view l)) seen c.args.location_values.now i
    c.location_value-item.result items c.match-branch-2.spans.items c.in_ok-span.field-0 step _ c.loop-location_value-test.true
    c.location_value-item.is
    (ap (λ first. cons_option step (location_value_spans first (items_view (drop (i + 1) c.args.location_values.now)))) (sym later))
    c.in_ok-span.ensures grown c.loop-location_value.invariant

pub returns : goal.returns
returns c =
    all_made (λ l. location_value_spans c.loop-location_value.is_first (items_view l)) c.args.location_values.now
    c.loop-location_value.location_value-index _ _ c.loop-location_value-test.false refl c.loop-location_value.invariant
