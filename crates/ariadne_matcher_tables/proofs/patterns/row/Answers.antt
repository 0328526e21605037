use Rattle.std.proofs.Common.{sym, subst, List, Option, ℕ}
use Rattle.toml.specs.View.{view}
use Rattle.ariadne_matcher_tables.specs.Patterns.{IsOfGroups, IsOfRow}
use Rattle.ariadne_matcher_tables.proofs.RowFaults.{handed_on, of_groups, of_pattern}
use Rattle.ariadne_matcher_tables.proofs.patterns.row.Goals as goal

-- its pattern's
pub returns-in_err-pattern-clause-fault : goal.returns-in_err-pattern-clause-fault
returns-in_err-pattern-clause-fault c =
    handed_on (IsOfRow (view c.args.given.now)) c.from_residual-in_err-pattern.result c.in_err-pattern.field-0.0
    c.from_residual-in_err-pattern.ensures.1
    (of_pattern (view c.args.given.now) c.in-Some.often c.in-Some.text.now c.in_err-pattern.field-0.0 (sym c.in-Some.ensures)
    c.in_err-pattern.ensures.fault)

-- its groups'
pub returns-in_err-check_groups-clause-fault : goal.returns-in_err-check_groups-clause-fault
returns-in_err-check_groups-clause-fault c =
    handed_on (IsOfRow (view c.args.given.now)) c.from_residual-in_err-check_groups.result c.in_err-check_groups.field-0.0
    c.from_residual-in_err-check_groups.ensures.1
    (of_groups (view c.args.given.now) c.in-Some.often c.in-Some.text.now c.in_ok-pattern.pattern c.in_err-check_groups.field-0.0
    (sym c.in-Some.ensures) c.in_ok-pattern.ensures.pattern
    (subst (λ (names : List (Option (List ℕ))). IsOfGroups names c.in_err-check_groups.field-0.0) c.capture_names.ensures
    c.in_err-check_groups.ensures.fault))
