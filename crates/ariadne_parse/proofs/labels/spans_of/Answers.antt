-- A label may add a span to those so far.
use Rattle.std.proofs.Common.{◌≡◌, ◌∙◌, ◌++◌, ap, refl, sym, append-nil}
use Rattle.std.specs.Prelude.{map}
use Rattle.std.specs.List.{filter_map}
use Rattle.std.specs.Option.{option_to_list}
use Rattle.ariadne_parse.specs.Rustc.{label_span, labelled}
use Rattle.ariadne_parse.specs.Spans.{seen}
use Rattle.ariadne_parse.proofs.Loops.{all_made, one_perhaps}
use Rattle.ariadne_parse.proofs.labels.spans_of.Goals as goal
use Rattle.ariadne_parse.proofs.labels.spans_of.Goals.{in-Some+in_ok-push, in_default}

pub loop-label-preserved : goal.loop-label-preserved
loop-label-preserved c =
    let items = c.loop-label.spans.items in
    let grown : c.match-branch-2.spans.items ≡ items ++ option_to_list c.in_ok-span.field-0 =
    elim c.match-branch-2.branch [
      | in-Some+in_ok-push w ↦
          ap (λ v. v.items) w.spans-is ∙ w.in_ok-push.ensures.items ∙ ap (λ o. items ++ option_to_list o) (sym w.in-Some.is)
      | in_default w ↦
          ap (λ v. v.items) w.spans-is ∙ sym (append-nil items) ∙ ap (λ o. items ++ option_to_list o) (sym w.in_default.is)
    ] in
    one_perhaps (λ l. filter_map label_span (map labelled l)) (λ l. filter_map label_span (map labelled l)) seen c.args.labels.now
    c.loop-label.label-index c.label-item.result items c.match-branch-2.spans.items c.in_ok-span.field-0
    (label_span (labelled c.label-item.result)) _ c.loop-label-test.true c.label-item.is refl c.in_ok-span.ensures grown
    c.loop-label.invariant

pub returns : goal.returns
returns c =
    all_made (λ l. filter_map label_span (map labelled l)) c.args.labels.now c.loop-label.label-index _ _ c.loop-label-test.false
    refl c.loop-label.invariant
