use Rattle.toml.specs.View.{view}
use Rattle.ariadne_matcher_tables.proofs.EachEntry.{of_whole}
use Rattle.ariadne_matcher_tables.proofs.tables.table_of.Goals as goal

-- it is wrong, and no entry is
pub returns-in-Err-clause-refusal : goal.returns-in-Err-clause-refusal
returns-in-Err-clause-refusal c =
    rw c.of_whole.ensures (of_whole (view c.args.given.now) c.in-Err.fault c.in-Err.ensures.fault)
