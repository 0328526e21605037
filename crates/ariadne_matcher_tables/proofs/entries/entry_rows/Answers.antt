use Rattle.std.proofs.Common.{map, sym, inl, inr}
use Rattle.std.proofs.lemmas.Result.{IfErr-weaker}
use Rattle.toml.specs.View.{view}
use Rattle.ariadne_matcher_tables.proofs.Zipped.{both_ok}
use Rattle.ariadne_matcher_tables.proofs.entries.entry_rows.Goals as goal

-- those of the list
pub returns-in-Ok-clause-rows : goal.returns-in-Ok-clause-rows
returns-in-Ok-clause-rows c =
    both_ok _ _ _ c.rows.result
    (λ x are order. record { values = map view c.in-Ok.values.now; listed = sym c.in-Ok.ensures.items; rows_are = are; in_order = order })
    c.rows.ensures.rows c.rows.ensures.order

pub returns-in-Ok-clause-fault : goal.returns-in-Ok-clause-fault
returns-in-Ok-clause-fault c =
    IfErr-weaker c.rows.result _ _ (λ x h. inr (map view c.in-Ok.values.now, sym c.in-Ok.ensures.items, h)) c.rows.ensures.fault

-- there is no list
pub returns-in-Err-clause-fault : goal.returns-in-Err-clause-fault
returns-in-Err-clause-fault c = inl c.in-Err.ensures.fault
