use Rattle.std.proofs.Common.{◌∙◌, ap, length}
use Rattle.std.specs.Prelude.{map}
use Rattle.ariadne_matchers.proofs.RowLines.{taken_is}
use Rattle.ariadne_matchers.specs.Catches.{caught_at}
use Rattle.ariadne_matchers.specs.MatchedRows.{row_of, taken_of, Pattern}
use Rattle.ariadne_matchers.proofs.rows.RowSearch.take.Goals as goal

-- by what it caught of the lines that it could reach
pub returns-clause-taken : goal.returns-clause-taken
returns-clause-taken c =
    let caught = c.in_ok-caught.caught.items in
    c.settled.ensures
    ∙ ap (λ (row : Pattern). taken_of row.often c.args.is_all (length c.reach-lines.result.now) (map caught_at caught)) c.catch_front.ensures.same
    ∙ taken_is (row_of c.args.self.now) c.args.is_all c.args.lines.now c.reach-lines.result.now caught
    c.reach-lines.ensures c.in_ok-caught.ensures.caught
