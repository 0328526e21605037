use Rattle.std.proofs.Common.{◌∙◌, ap}
use Rattle.std.specs.Prelude.{map}
use Rattle.ariadne_matchers.proofs.MessageRows.{row_missing, row_pushed}
use Rattle.ariadne_matchers.proofs.messages.rows_of.Goals as goal
use Rattle.ariadne_matchers.proofs.messages.rows_of.Goals.{in-Some+in_ok-push, in_default}

-- a line that has a row, and one that has none
pub loop-caught-preserved : goal.loop-caught-preserved
loop-caught-preserved c =
    elim c.match-row_of.branch [
      | in-Some+in_ok-push w ↦
          row_pushed c.args.lines.now c.loop-caught.caught-index _ c.loop-caught-test.true _ _ _ _
          w.in-Some.is (ap (λ v. v.items) w.rows-is ∙ w.in_ok-push.ensures.items) c.row_of.ensures c.loop-caught.invariant
      | in_default w ↦
          ap (λ v. map (λ row. row.now) v.items) w.rows-is
          ∙ row_missing c.args.lines.now c.loop-caught.caught-index _ c.loop-caught-test.true _ _
          w.in_default.is c.row_of.ensures c.loop-caught.invariant
    ]
