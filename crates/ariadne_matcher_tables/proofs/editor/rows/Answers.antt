use Rattle.std.proofs.Common.{rules, sym, subst, List, alloc_error, inl, inr}
use Rattle.std.specs.List.{AllZip, Any}
use Rattle.serde_json.specs.Data.{Data}
use Rattle.serde_json.specs.View.{view}
use Rattle.ariadne_matcher_tables.specs.Editors.{IsOfEntry, IsOfRow, IsRowAt}
use Rattle.ariadne_matcher_tables.specs.Patterns.{AreInOrder, IsOfOrder}
use Rattle.ariadne_matchers.specs.declared.entry.Row.{Row}
use Rattle.ariadne_matcher_tables.specs.declared.refusal.Fault.TheVariants.{Memory}
use Rattle.ariadne_matcher_tables.proofs.RowFaults.{handed_on}
use Rattle.ariadne_matcher_tables.proofs.editor.rows.Goals as goal

-- there is no pattern
pub returns-in_default-clause-fault : goal.returns-in_default-clause-fault
returns-in_default-clause-fault c = inl (search rules)

-- a row has the fault
pub returns-in_err-each_row-clause-fault : goal.returns-in_err-each_row-clause-fault
returns-in_err-each_row-clause-fault c =
    handed_on (IsOfEntry (view c.args.given.now)) c.from_residual.result c.in_err-each_row.field-0.0 c.from_residual.ensures.1
    (inr (
      view c.in-Some.pattern.now,
      sym c.in-Some.ensures,
      inl (subst (λ (those : List Data). Any (λ row. IsOfRow row c.in_err-each_row.field-0.0) those) c.listed.ensures c.in_err-each_row.ensures.fault),
    ))

-- there is no memory
pub returns-in_err-rows-clause-fault : goal.returns-in_err-rows-clause-fault
returns-in_err-rows-clause-fault c =
    handed_on (IsOfEntry (view c.args.given.now)) c.from_residual-in_err-rows.result (Memory alloc_error) c.from_residual-in_err-rows.ensures.1 (inl tt)

-- they have it together
pub returns-in_err-check_rows-clause-fault : goal.returns-in_err-check_rows-clause-fault
returns-in_err-check_rows-clause-fault c =
    let own = c.in_ok-each_row.field-0.items in
    handed_on (IsOfEntry (view c.args.given.now)) c.from_residual-in_err-check_rows.result c.in_err-check_rows.field-0.0
    c.from_residual-in_err-check_rows.ensures.1
    (inr (
      view c.in-Some.pattern.now,
      sym c.in-Some.ensures,
      inr (
        own,
        subst (λ (those : List Data). AllZip IsRowAt those own) c.listed.ensures c.in_ok-each_row.ensures.rows,
        subst (λ (rows : List Row). IsOfOrder rows c.in_err-check_rows.field-0.0) c.in_ok-rows.ensures
            (subst (λ (rows : List Row). IsOfOrder rows c.in_err-check_rows.field-0.0) c.as_slice.ensures.value c.in_err-check_rows.ensures.fault),
      ),
    ))

-- they are those of the pattern
pub returns-clause-rows : goal.returns-clause-rows
returns-clause-rows c =
    let own = c.in_ok-each_row.field-0.items in
    record {
      pattern = view c.in-Some.pattern.now;
      pattern_given = sym c.in-Some.ensures;
      own = own;
      own_are = subst (λ (those : List Data). AllZip IsRowAt those own) c.listed.ensures c.in_ok-each_row.ensures.rows;
      message_told = c.in_ok-rows.ensures;
      in_order = subst (λ (rows : List Row). AreInOrder rows) c.as_slice.ensures.value c.in_ok-check_rows.ensures.order;
    }
