use Rattle.std.proofs.Common.{◌∙◌, arith, sym, Some}
use Rattle.ariadne_layout.proofs.Choices.{better_kept, better_taken, better_first, considered_before, considered_inside, considered_behind}
use Rattle.ariadne_layout.proofs.choice.Choice.consider.Goals as goal
use Rattle.ariadne_layout.proofs.choice.Choice.consider.Goals.{in_default-via-in-Some+else-not-is_preferred_to, in_default-via-in_default}

-- it begins behind the offset
pub returns-then-self-info : goal.returns-then-self-info
returns-then-self-info c =
    considered_before c.args.self.now c.args.info.now c.min-self.result (omega arith) c.if-self-info.true c.min-self.ensures

-- it holds the offset, but another is preferred
pub returns-in-Some : goal.returns-in-Some
returns-in-Some c =
    considered_inside c.args.self.now c.args.info.now c.min-self-then-self-info-2.result c.args.self.now.best (omega arith)
    c.if-self-info.false c.if-self-info-2.true c.min-self-then-self-info-2.ensures
    (better_kept c.args.self.now.best c.in-Some.best c.args.info.now c.in-Some.is (sym c.is_preferred_to.ensures ∙ c.if-not-is_preferred_to.true))

-- it holds the offset, and is preferred
pub returns-in_default : goal.returns-in_default
returns-in_default c =
    considered_inside c.args.self.now c.args.info.now c.min-self-then-self-info-2.result (Some c.args.info) (omega arith)
    c.if-self-info.false c.if-self-info-2.true c.min-self-then-self-info-2.ensures
    (elim c.in_default.branch [
      | in_default-via-in-Some+else-not-is_preferred_to w ↦ better_taken c.args.self.now.best w.in-Some.best c.args.info.now w.in-Some.is
          (sym w.is_preferred_to.ensures ∙ w.if-not-is_preferred_to.false)
      | in_default-via-in_default w ↦ better_first c.args.self.now.best c.args.info.now w.in_default.is
    ])

-- it ended before the offset
pub returns-else-self-info-2 : goal.returns-else-self-info-2
returns-else-self-info-2 c = considered_behind c.args.self.now c.args.info.now c.if-self-info-2.false
