use Rattle.std.proofs.Common.{◌+◌, ◌∙◌, ap}
use Rattle.std.proofs.lemmas.Result.{on_ok_weaker}
use Rattle.ariadne_layout.specs.Choices.{inline_infos, shown_position}
use Rattle.ariadne_layout.specs.Tables.{shown_at}
use Rattle.ariadne_layout.proofs.Stretched.{underline_shown, underline_unseen}
use Rattle.ariadne_layout.proofs.stretches.find_underlines.Goals as goal

-- no underlines are wanted
pub returns-then-not-switches : goal.returns-then-not-switches
unfolding shown_at
returns-then-not-switches c = λ k below.
    ap (λ t. shown_at t k) c.clear.ensures.items ∙ underline_unseen c.args.switches.now c.args.layout.now k c.if-not-switches.true

-- they are those of the labels that lie within the line, which stand apart
pub returns-then-branch : goal.returns-then-branch
returns-then-branch c = λ k below.
    c.in_ok-take_apart.ensures c.if-branch.true k
    ∙ (λ i. shown_position (inline_infos (c.labels-labels.ensures i)) (c.offset.ensures i + k))
    ∙ underline_shown c.args.switches.now c.args.layout.now k c.if-not-switches.false

-- or compete for places
pub returns : goal.returns
returns c =
    let same = c.inline.ensures.infos ∙ ap inline_infos c.labels-labels.ensures in
    on_ok_weaker c.fill.result
    (λ h k below. h k below ∙ (λ i. shown_position (same i) (c.offset-2.ensures i + k))
    ∙ underline_shown c.args.switches.now c.args.layout.now k c.if-not-switches.false)
    c.fill.ensures
