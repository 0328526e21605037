use Rattle.std.proofs.Common.{◌≡◌, take}
use Rattle.std.specs.Prelude.{map}
use Rattle.ariadne_matchers.specs.Catches.{caught_at}
use Rattle.ariadne_matchers.specs.MatchedMessages.{message_rows}
use Rattle.ariadne_matchers.proofs.messages.rows_of.Given as goal

-- the rows of the lines so far
abbrev pub invariant-loop-caught : goal.invariant-loop-caught
invariant-loop-caught l = map (λ row. row.now) l.rows.items ≡ message_rows (map caught_at (take l.caught-index l.lines))
