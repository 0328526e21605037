use Rattle.std.proofs.Common.{inl, inr}
use Rattle.toml.specs.View.{view}
use Rattle.ariadne_matcher_tables.specs.MatcherTables.{IsOfEntry}
use Rattle.ariadne_matcher_tables.proofs.RowFaults.{handed_on}
use Rattle.ariadne_matcher_tables.proofs.entries.entry.Goals as goal

pub returns-in_err-check_names-clause-fault : goal.returns-in_err-check_names-clause-fault
returns-in_err-check_names-clause-fault c =
    handed_on (IsOfEntry (view c.args.given.now)) c.from_residual.result c.in_err-check_names.field-0.0 c.from_residual.ensures.1
    (inl c.in_err-check_names.ensures.fault)

pub returns-in_err-entry-clause-fault : goal.returns-in_err-entry-clause-fault
returns-in_err-entry-clause-fault c =
    handed_on (IsOfEntry (view c.args.given.now)) c.from_residual-in_err-entry.result c.in_err-entry.field-0.0
    c.from_residual-in_err-entry.ensures.1 (inr (inl c.in_err-entry.ensures.fault))

pub returns-in_err-entry-2-clause-fault : goal.returns-in_err-entry-2-clause-fault
returns-in_err-entry-2-clause-fault c =
    handed_on (IsOfEntry (view c.args.given.now)) c.from_residual-in_err-entry-2.result c.in_err-entry-2.field-0.0
    c.from_residual-in_err-entry-2.ensures.1 (inr c.in_err-entry-2.ensures.fault)
