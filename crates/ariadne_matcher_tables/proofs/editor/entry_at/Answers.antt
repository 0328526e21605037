use Rattle.std.specs.Option.{option_copied}
use Rattle.serde_json.specs.View.{view}
use Rattle.ariadne_matcher_tables.proofs.Matchers.{of_called}
use Rattle.ariadne_matcher_tables.proofs.editor.entry_at.Goals as goal

-- the entry has the fault
pub returns-in-Err-clause-refusal : goal.returns-in-Err-clause-refusal
returns-in-Err-clause-refusal c =
    of_called c.args.number (view c.args.given.now) (option_copied c.name_of.result) c.in-Err.fault c.of_entry.result c.name_of.ensures
    c.of_entry.ensures c.in-Err.ensures.fault
