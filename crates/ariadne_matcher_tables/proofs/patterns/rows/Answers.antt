use Rattle.std.proofs.Common.{map, inr, subst, List}
use Rattle.toml.specs.View.{view}
use Rattle.ariadne_matcher_tables.specs.Patterns.{IsOfOrder, IsOfRows}
use Rattle.ariadne_matchers.specs.declared.entry.Row.{Row}
use Rattle.ariadne_matcher_tables.proofs.RowFaults.{handed_on}
use Rattle.ariadne_matcher_tables.proofs.patterns.rows.Goals as goal

-- they have the fault together
pub returns-in_err-check_rows-clause-fault : goal.returns-in_err-check_rows-clause-fault
returns-in_err-check_rows-clause-fault c =
    handed_on (IsOfRows (map view c.args.given.now)) c.from_residual-in_err-check_rows.result c.in_err-check_rows.field-0.0
    c.from_residual-in_err-check_rows.ensures.1
    (inr (
      c.in_ok-rows.rows.items,
      c.in_ok-rows.ensures.rows,
      subst (λ (rows : List Row). IsOfOrder rows c.in_err-check_rows.field-0.0) c.as_slice.ensures.value c.in_err-check_rows.ensures.fault,
    ))
