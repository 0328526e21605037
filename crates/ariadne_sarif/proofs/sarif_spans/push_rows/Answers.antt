-- A location may add a row to those so far.
use Rattle.std.proofs.Common.{◌≡◌, ◌∙◌, ◌++◌, ap, refl, sym, append-nil}
use Rattle.std.specs.Prelude.{string_bytes}
use Rattle.std.specs.Option.{option_to_list}
use Rattle.serde_json.specs.View.{items_view, view}
use Rattle.ariadne_parse.proofs.Loops.{all_made, one_perhaps}
use Rattle.ariadne_sarif.specs.SarifSpans.{row_at, rows_at}
use Rattle.ariadne_sarif.proofs.sarif_spans.push_rows.Goals as goal
use Rattle.ariadne_sarif.proofs.sarif_spans.push_rows.Goals.{in-Some+in_ok-push, in_default}

pub loop-location_value-preserved : goal.loop-location_value-preserved
loop-location_value-preserved c =
    let items = c.loop-location_value.rows.items in
    let run = view c.args.run.now in
    let grown : c.match-branch-2.rows.items ≡ items ++ option_to_list c.in_ok-row.field-0 =
    elim c.match-branch-2.branch [
      | in-Some+in_ok-push w ↦
          ap (λ v. v.items) w.rows-is ∙ w.in_ok-push.ensures.items ∙ ap (λ o. items ++ option_to_list o) (sym w.in-Some.is)
      | in_default w ↦
          ap (λ v. v.items) w.rows-is ∙ sym (append-nil items) ∙ ap (λ o. items ++ option_to_list o) (sym w.in_default.is)
    ] in
    one_perhaps (λ l. rows_at run (items_view l)) (λ l. rows_at run (items_view l)) string_bytes c.args.location_values.now
    c.loop-location_value.location_value-index c.location_value-item.result items c.match-branch-2.rows.items c.in_ok-row.field-0
    (row_at run (view c.location_value-item.result)) _ c.loop-location_value-test.true c.location_value-item.is refl
    c.in_ok-row.ensures grown c.loop-location_value.invariant

pub returns : goal.returns
returns c =
    all_made (λ l. rows_at (view c.args.run.now) (items_view l)) c.args.location_values.now
    c.loop-location_value.location_value-index _ _ c.loop-location_value-test.false refl c.loop-location_value.invariant
