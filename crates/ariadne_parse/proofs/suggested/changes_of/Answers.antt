-- A span may add a change to those so far.
use Rattle.std.proofs.Common.{◌≡◌, ◌∙◌, ◌++◌, ap, refl, sym, append-nil}
use Rattle.std.specs.Option.{option_to_list}
use Rattle.serde_json.specs.View.{items_view, view}
use Rattle.ariadne_parse.specs.Proposed.{changes_by, filed, rustc_change}
use Rattle.ariadne_parse.proofs.Loops.{all_made, one_perhaps}
use Rattle.ariadne_parse.proofs.suggested.changes_of.Goals as goal
use Rattle.ariadne_parse.proofs.suggested.changes_of.Goals.{in-Some+in_ok-push, in_default}

pub loop-span_value-preserved : goal.loop-span_value-preserved
loop-span_value-preserved c =
    let items = c.loop-span_value.changes.items in
    let grown : c.match-change_of.changes.items ≡ items ++ option_to_list c.change_of.result =
    elim c.match-change_of.branch [
      | in-Some+in_ok-push w ↦
          ap (λ v. v.items) w.changes-is ∙ w.in_ok-push.ensures.items ∙ ap (λ o. items ++ option_to_list o) (sym w.in-Some.is)
      | in_default w ↦
          ap (λ v. v.items) w.changes-is ∙ sym (append-nil items) ∙ ap (λ o. items ++ option_to_list o) (sym w.in_default.is)
    ] in
    one_perhaps (λ l. changes_by rustc_change (items_view l)) (λ l. changes_by rustc_change (items_view l)) filed c.args.span_values.now
    c.loop-span_value.span_value-index c.span_value-item.result items c.match-change_of.changes.items c.change_of.result
    (rustc_change (view c.span_value-item.result)) _ c.loop-span_value-test.true c.span_value-item.is refl c.change_of.ensures grown
    c.loop-span_value.invariant

pub returns : goal.returns
returns c =
    all_made (λ l. changes_by rustc_change (items_view l)) c.args.span_values.now c.loop-span_value.span_value-index _ _ c.loop-span_value-test.false
    refl c.loop-span_value.invariant
