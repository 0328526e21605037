-- Each turn of the loop puts the vertical of a label, if it has one, over those of the labels behind it.
use Rattle.std.proofs.Common.{◌==◌, ◌∙◌, ap, arith, cond, length, Some, subst, sym}
use Rattle.std.proofs.lemmas.Iterator.Adapters.{YieldsList-from_rev_slice}
use Rattle.std.proofs.lemmas.Iterator.Consumers.{YieldsList-end, YieldsList-turn}
use Rattle.std.proofs.lemmas.List.{length_push}
use Rattle.ariadne_layout.specs.declared.verticals.Vertical.{Vertical}
use Rattle.ariadne_layout.specs.Tables.{seen_vertical}
use Rattle.ariadne_layout.proofs.LabelVerticals.{AreOfLast, last-all, last-none, last-shown, last-silent}
use Rattle.ariadne_layout.proofs.verticals.Verticals.fill.Goals as goal

-- none is held of none
pub loop-label-init : goal.loop-label-init
loop-label-init c = last-none c.args.layout.now _ (c.in_ok-reserve_exact.ensures.items ∙ c.clear.ensures.items)

-- the label has a vertical, which is shown at its place
pub loop-label-preserved-in-Continue-branch-2 : goal.loop-label-preserved-in-Continue-branch-2
loop-label-preserved-in-Continue-branch-2 c =
    let t = YieldsList-turn (YieldsList-from_rev_slice c.labels-labels.result.now cc) c.loop-label.yielded _ c.loop-label.yielded_by _ _
    c.in-Some.label c.in-Some.is c.next.ensures.steps in
    subst (λ n. AreOfLast c.args.layout.now n c.show.new.self) (sym (length_push c.loop-label.yielded c.in-Some.label))
    (last-shown c.args.layout.now c.labels-labels.result.now (length c.loop-label.yielded) c.in-Some.label.now c.loop-label.self c.show.new.self
    c.labels-labels.ensures t.0 t.1 (sym c.has_vertical.ensures ∙ c.if-has_vertical.true)
    (λ k. c.in_ok-show.ensures k ∙ ap (λ (v : Vertical). cond (v.place == k) (Some v) (seen_vertical c.loop-label.self k)) c.vertical_of.ensures)
    c.loop-label.invariant)

-- the label has none
pub loop-label-preserved : goal.loop-label-preserved
loop-label-preserved c =
    let t = YieldsList-turn (YieldsList-from_rev_slice c.labels-labels.result.now cc) c.loop-label.yielded _ c.loop-label.yielded_by _ _
    c.in-Some.label c.in-Some.is c.next.ensures.steps in
    subst (λ n. AreOfLast c.args.layout.now n c.loop-label.self) (sym (length_push c.loop-label.yielded c.in-Some.label))
    (last-silent c.args.layout.now c.labels-labels.result.now (length c.loop-label.yielded) c.in-Some.label.now c.loop-label.self
    c.labels-labels.ensures t.0 t.1 (sym c.has_vertical.ensures ∙ c.if-has_vertical.false) c.loop-label.invariant)

-- the loop went over all labels
pub returns : goal.returns
returns c =
    let t = YieldsList-end (YieldsList-from_rev_slice c.labels-labels.result.now cc) c.loop-label.yielded _ c.loop-label.yielded_by _ _
    c.in-None.is c.next.ensures.steps in
    last-all c.args.layout.now c.labels-labels.result.now (length c.loop-label.yielded) c.loop-label.self c.labels-labels.ensures
    (omega (arith, t.1)) c.loop-label.invariant
