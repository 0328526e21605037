use Rattle.std.proofs.Common.{inl}
use Rattle.serde_json.specs.View.{view}
use Rattle.ariadne_matcher_tables.specs.Editors.{IsOfEntry}
use Rattle.ariadne_matcher_tables.proofs.RowFaults.{handed_on}
use Rattle.ariadne_matcher_tables.proofs.editor.entry.Goals as goal

pub returns-in_err-entry-clause-fault : goal.returns-in_err-entry-clause-fault
returns-in_err-entry-clause-fault c =
    handed_on (IsOfEntry (view c.args.given.now)) c.from_residual.result c.in_err-entry.field-0.0 c.from_residual.ensures.1
    (inl c.in_err-entry.ensures.fault)
