use Rattle.std.proofs.Common.{arith, subst}
use Rattle.std.proofs.lemmas.List.{take_all}
use Rattle.ariadne_layout.specs.Choices.{Considers, numbered}
use Rattle.ariadne_layout.proofs.Choices.{considers_none, considers_number}
use Rattle.ariadne_layout.proofs.choice.Choice.with_numbered.Goals as goal

-- at first none is considered
pub loop-number-init : goal.loop-number-init
unfolding numbered
loop-number-init c = considers_none c.args.self

-- a turn considers the label of one number more
pub loop-number-preserved : goal.loop-number-preserved
loop-number-preserved c =
    considers_number c.args.self c.loop-number.choice c.consider.new.self c.args.infos.now c.args.numbers.now c.loop-number.number-index 0 _
    (omega arith) (c.requires c.loop-number.number-index 0 (omega arith)) c.loop-number.invariant c.consider.ensures

-- the last turn has considered those of all numbers
pub returns : goal.returns
returns c =
    subst (λ t. Considers c.args.self c.loop-number.choice (numbered c.args.infos.now t)) (take_all c.loop-number.number-index c.args.numbers.now (omega arith))
    c.loop-number.invariant
