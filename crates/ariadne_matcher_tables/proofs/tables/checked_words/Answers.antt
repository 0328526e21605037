use Rattle.std.proofs.Common.{inl, inr}
use Rattle.std.proofs.lemmas.Result.{IfErr-weaker}
use Rattle.toml.specs.View.{view}
use Rattle.ariadne_matcher_tables.specs.MatcherTables.{IsOfWhole}
use Rattle.ariadne_matcher_tables.proofs.RowFaults.{handed_on}
use Rattle.ariadne_matcher_tables.proofs.Zipped.{always_ok}
use Rattle.ariadne_matcher_tables.proofs.tables.checked_words.Goals as goal

-- a member is unknown
pub returns-in_err-check_names-clause-fault : goal.returns-in_err-check_names-clause-fault
returns-in_err-check_names-clause-fault c =
    handed_on (IsOfWhole (view c.args.given.now)) c.from_residual.result c.in_err-check_names.field-0.0 c.from_residual.ensures.1
    (inl c.in_err-check_names.ensures.fault)

-- none is
pub returns-clause-only : goal.returns-clause-only
returns-clause-only c = always_ok _ c.words.result c.in_ok-check_names.ensures.only

-- the words are wrong
pub returns-clause-fault : goal.returns-clause-fault
returns-clause-fault c = IfErr-weaker c.words.result _ _ (λ x h. inr h) c.words.ensures.fault
