use Rattle.std.proofs.Common.{arith, subst}
use Rattle.std.proofs.lemmas.List.{take_all}
use Rattle.ariadne_layout.specs.Choices.{Considers, infos_of}
use Rattle.ariadne_layout.proofs.Choices.{considers_none, considers_label}
use Rattle.ariadne_layout.proofs.choice.Choice.with_labels.Goals as goal

-- at first none is considered
pub loop-label-init : goal.loop-label-init
unfolding infos_of
loop-label-init c = considers_none c.args.self

-- a turn considers one label more
pub loop-label-preserved : goal.loop-label-preserved
loop-label-preserved c =
    considers_label c.args.self c.loop-label.choice c.consider.new.self c.args.labels.now c.loop-label.label-index _ (omega arith)
    c.loop-label.invariant c.consider.ensures

-- the last turn has considered all labels
pub returns : goal.returns
returns c =
    subst (λ t. Considers c.args.self c.loop-label.choice (infos_of t)) (take_all c.loop-label.label-index c.args.labels.now (omega arith))
    c.loop-label.invariant
