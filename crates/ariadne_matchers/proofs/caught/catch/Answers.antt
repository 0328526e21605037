use Rattle.std.proofs.Common.{◌∙◌, ap, sym, Some}
use Rattle.regex.specs.Patterns.{Re}
use Rattle.ariadne_matchers.specs.Catches.{catch_by}
use Rattle.ariadne_matchers.proofs.Spans.{catch_is, catch_none, catch_unfit}
use Rattle.ariadne_matchers.proofs.caught.catch.Goals as goal

-- no part of the line fits
pub returns-then-not-is_match-clause-caught : goal.returns-then-not-is_match-clause-caught
returns-then-not-is_match-clause-caught c =
    catch_unfit _ c.args.groups.now c.args.line.now (sym c.if-not-is_match.ensures.found)

-- where the groups stand isn't told
pub returns-in_err-captures-clause-caught : goal.returns-in_err-captures-clause-caught
returns-in_err-captures-clause-caught c =
    let groups = c.args.groups.now in
    let line = c.args.line.now in
    rw c.from_residual.ensures
    (catch_none _ groups line c.in_err-captures.ensures.found ∙ ap (λ (re : Re). catch_by re groups line) c.if-not-is_match.ensures.same)

-- they are told
pub returns-clause-caught : goal.returns-clause-caught
returns-clause-caught c =
    let groups = c.args.groups.now in
    let line = c.args.line.now in
    let found = c.in_ok-captures.ensures.found in
    ap Some c.caught_by.ensures
    ∙ catch_is _ groups line c.in_ok-captures.captures found.0 found.1 found.2
    ∙ ap (λ (re : Re). catch_by re groups line) c.if-not-is_match.ensures.same
