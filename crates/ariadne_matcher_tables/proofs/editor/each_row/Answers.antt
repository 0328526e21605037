use Rattle.std.proofs.Common.{map, alloc_error, inl}
use Rattle.std.specs.List.{Any}
use Rattle.serde_json.specs.View.{view}
use Rattle.ariadne_matcher_tables.specs.Editors.{IsOfRow}
use Rattle.ariadne_matcher_tables.specs.declared.refusal.Fault.TheVariants.{Memory}
use Rattle.ariadne_matcher_tables.proofs.Matchers.{one_of, rows_more}
use Rattle.ariadne_matcher_tables.proofs.RowFaults.{handed_on}
use Rattle.ariadne_matcher_tables.proofs.editor.each_row.Goals as goal

-- this row has the fault
pub returns-in_err-row-clause-fault : goal.returns-in_err-row-clause-fault
returns-in_err-row-clause-fault c =
    handed_on (λ fault. Any (λ row. IsOfRow row fault) (map view c.args.given.now)) c.from_residual.result c.in_err-row.field-0.0
    c.from_residual.ensures.1
    (one_of c.args.given.now c.loop-value.value-index c.value-item.result c.in_err-row.field-0.0 c.loop-value-test.true c.value-item.is
    c.in_err-row.ensures.fault)

-- there is no memory
pub returns-in_err-push-clause-fault : goal.returns-in_err-push-clause-fault
returns-in_err-push-clause-fault c =
    handed_on (λ fault. Any (λ row. IsOfRow row fault) (map view c.args.given.now)) c.from_residual-in_err-push.result (Memory alloc_error)
    c.from_residual-in_err-push.ensures.1
    (one_of c.args.given.now c.loop-value.value-index c.value-item.result (Memory alloc_error) c.loop-value-test.true c.value-item.is (inl tt))

-- one row more
pub loop-value-preserved : goal.loop-value-preserved
loop-value-preserved c =
    rw c.in_ok-push.ensures.items
    (rows_more c.args.given.now c.loop-value.value-index c.value-item.result c.loop-value.rows.items c.in_ok-row.field-0 c.loop-value-test.true
    c.value-item.is c.loop-value.invariant c.in_ok-row.ensures.row)
