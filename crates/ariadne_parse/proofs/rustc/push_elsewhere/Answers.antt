-- The text goes on with the row of a span, if it has one.
use Rattle.std.proofs.Common.{◌≡◌, ◌+◌, ◌∙◌, ap, drop, sym}
use Rattle.std.specs.Prelude.{option_map, string_bytes}
use Rattle.std.proofs.lemmas.List.{at_drop_all}
use Rattle.serde_json.specs.View.{items_view, view}
use Rattle.ariadne_parse.specs.Noted.{with_row}
use Rattle.ariadne_parse.specs.Rustc.{elsewhere_row, with_row_if, with_rows}
use Rattle.ariadne_parse.proofs.Loops.{next_first}
use Rattle.ariadne_parse.proofs.rustc.push_elsewhere.Goals as goal
use Rattle.ariadne_parse.proofs.rustc.push_elsewhere.Goals.{in-Some+in_ok-push_row, in_default}

pub loop-span_value-preserved : goal.loop-span_value-preserved
loop-span_value-preserved c =
    let text = string_bytes c.loop-span_value.text in
    let i = c.loop-span_value.span_value-index in
    let d = view c.span_value-item.result in
    let grown : string_bytes c.match-branch-2.text ≡ with_row_if text (elsewhere_row d) =
    elim c.match-branch-2.branch [
      | in-Some+in_ok-push_row w ↦
          ap string_bytes w.text-is ∙ w.in_ok-push_row.ensures ∙ ap (with_row text) w.as_str.ensures.value
          ∙ ap (with_row_if text) (ap (option_map string_bytes) (sym w.in-Some.is) ∙ c.in_ok-row.ensures)
      | in_default w ↦
          ap string_bytes w.text-is
          ∙ ap (with_row_if text) (ap (option_map string_bytes) (sym w.in_default.is) ∙ c.in_ok-row.ensures)
    ] in
    ap (λ text. with_rows text (items_view (drop (i + 1) c.args.span_values.now))) grown
    ∙ sym (next_first (λ l. with_rows text (items_view l)) c.args.span_values.now i c.span_value-item.result
    c.loop-span_value-test.true c.span_value-item.is)
    ∙ c.loop-span_value.invariant
