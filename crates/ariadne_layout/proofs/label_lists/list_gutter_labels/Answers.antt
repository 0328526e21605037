-- Each turn keeps a label that has a message.
use Rattle.std.proofs.Common.{ap, ◌∙◌, filter}
use Rattle.std.proofs.lemmas.List.{take_all}
use Rattle.ariadne_picture.specs.declared.label_info.LabelInfo.{LabelInfo}
use Rattle.ariadne_layout.proofs.Listing.{filter-push, filter-skip}
use Rattle.ariadne_layout.proofs.label_lists.list_gutter_labels.Goals as goal
use Rattle.ariadne_layout.proofs.label_lists.list_gutter_labels.Goals.{then-label+in_ok-push, else-label}

pub loop-label-init : goal.loop-label-init
loop-label-init c = c.reserve_exact.ensures.items ∙ c.clear.ensures.items

pub loop-label-preserved : goal.loop-label-preserved
loop-label-preserved c = elim c.if-label.branch [
  | then-label+in_ok-push w ↦
      filter-push (λ (a : LabelInfo). a.has_message) c.loop-label.list.items _ c.args.multi_line.now c.loop-label.label-index _
      c.loop-label-test.true c.loop-label.invariant w.if-label.true (ap (λ v. v.items) w.list-is ∙ w.in_ok-push.ensures.items)
  | else-label w ↦
      filter-skip (λ (a : LabelInfo). a.has_message) c.loop-label.list.items _ c.args.multi_line.now c.loop-label.label-index _
      c.loop-label-test.true c.loop-label.invariant w.if-label.false (ap (λ v. v.items) w.list-is)
]

pub returns : goal.returns
returns c =
    c.loop-label.invariant
    ∙ ap (filter (λ (a : LabelInfo). a.has_message)) (take_all c.loop-label.label-index c.args.multi_line.now c.loop-label-test.false)
