-- A label may add a span to those so far, and only the first may be primary without saying so.
use Rattle.std.proofs.Common.{◌≡◌, ◌∙◌, ◌++◌, ◌||◌, false, ap, refl, sym, append-nil}
use Rattle.std.specs.Prelude.{codes, option_map}
use Rattle.std.specs.Option.{option_to_list}
use Rattle.serde_json.specs.View.{items_view, view}
use Rattle.ariadne_parse.specs.Reports.{is_primary, label_location, label_span, label_spans}
use Rattle.ariadne_parse.specs.Spans.{seen}
use Rattle.ariadne_parse.proofs.Loops.{all_made, one_perhaps}
use Rattle.ariadne_parse.proofs.report.push_labels.Goals as goal
use Rattle.ariadne_parse.proofs.report.push_labels.Goals.{then-is_true, else-is_true, in-Some+in_ok-push, in_default}

pub loop-label-preserved : goal.loop-label-preserved
loop-label-preserved c =
    let items = c.loop-label.spans.items in
    let unit = c.args.unit in
    let needed = c.loop-label.is_needed in
    let d = view c.label-item.result in
    let grown : c.match-branch-2.spans.items ≡ items ++ option_to_list c.in_ok-span.field-0 =
    elim c.match-branch-2.branch [
      | in-Some+in_ok-push w ↦
          ap (λ v. v.items) w.spans-is ∙ w.in_ok-push.ensures.items ∙ ap (λ o. items ++ option_to_list o) (sym w.in-Some.is)
      | in_default w ↦
          ap (λ v. v.items) w.spans-is ∙ sym (append-nil items) ∙ ap (λ o. items ++ option_to_list o) (sym w.in_default.is)
    ] in
    let primary : c.if-is_true.is_primary ≡ is_primary d || needed =
    elim c.if-is_true.branch [
      | then-is_true w ↦ w.is_primary-is ∙ w.if-is_true.true ∙ ap (λ b. b || needed) (sym w.if-is_true.true ∙ c.is_true.ensures)
      | else-is_true w ↦ w.is_primary-is ∙ ap (λ b. b || needed) (sym w.if-is_true.false ∙ c.is_true.ensures)
    ] in
    one_perhaps (λ l. label_spans unit needed (items_view l)) (λ l. label_spans unit false (items_view l)) seen c.args.labels.now
    c.loop-label.label-index c.label-item.result items c.match-branch-2.spans.items c.in_ok-span.field-0
    (option_map (label_span unit (is_primary d || needed) d) (label_location (codes "start") d)) _ c.loop-label-test.true
    c.label-item.is refl
    (c.in_ok-span.ensures ∙ ap (λ b. option_map (label_span unit b d) (label_location (codes "start") d)) primary)
    grown c.loop-label.invariant

pub returns : goal.returns
returns c =
    all_made (λ l. label_spans c.args.unit c.loop-label.is_needed (items_view l)) c.args.labels.now c.loop-label.label-index _ _
    c.loop-label-test.false refl c.loop-label.invariant
