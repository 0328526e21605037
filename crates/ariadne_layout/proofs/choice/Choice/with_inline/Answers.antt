use Rattle.std.proofs.Common.{◌∙◌, sym, arith, subst}
use Rattle.std.proofs.lemmas.List.{take_all}
use Rattle.ariadne_layout.specs.Choices.{Considers, inline_infos, infos_of}
use Rattle.ariadne_layout.proofs.Choices.{considers_none, considers_inline, considers_not_inline}
use Rattle.ariadne_layout.proofs.choice.Choice.with_inline.Goals as goal
use Rattle.ariadne_layout.proofs.choice.Choice.with_inline.Goals.{then-is_inline, else-is_inline}

-- at first none is considered
pub loop-label-init : goal.loop-label-init
unfolding inline_infos infos_of
loop-label-init c = considers_none c.args.self

-- a turn considers one label more, or none
pub loop-label-preserved : goal.loop-label-preserved
loop-label-preserved c =
    elim c.if-is_inline.branch [
      | then-is_inline w ↦ rw w.choice-is (considers_inline c.args.self c.loop-label.choice w.consider.new.self c.args.labels.now
          c.loop-label.label-index _ (omega arith) c.loop-label.invariant (sym c.is_inline.ensures ∙ w.if-is_inline.true) w.consider.ensures)
      | else-is_inline w ↦ rw w.choice-is (considers_not_inline c.args.self c.loop-label.choice c.args.labels.now
          c.loop-label.label-index _ (omega arith) c.loop-label.invariant (sym c.is_inline.ensures ∙ w.if-is_inline.false))
    ]

-- the last turn has considered all labels
pub returns : goal.returns
returns c =
    subst (λ t. Considers c.args.self c.loop-label.choice (inline_infos t)) (take_all c.loop-label.label-index c.args.labels.now (omega arith))
    c.loop-label.invariant
