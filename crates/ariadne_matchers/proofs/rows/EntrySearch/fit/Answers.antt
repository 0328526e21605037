use Rattle.std.proofs.Common.{◌∙◌}
use Rattle.std.proofs.lemmas.Result.{IfOk-weaker}
use Rattle.ariadne_matchers.proofs.RowLines.{fit_is}
use Rattle.ariadne_matchers.specs.MatchedRows.{rows_of}
use Rattle.ariadne_matchers.proofs.rows.EntrySearch.fit.Goals as goal

-- of the first lines
pub returns-clause-taken : goal.returns-clause-taken
returns-clause-taken c =
    IfOk-weaker c.fit_rows.result _ _
    (λ taken is. is ∙ fit_is (rows_of c.args.self.now) c.args.is_all c.is_whole.result c.args.lines.now c.first_lines.result.now c.first_lines.ensures
    c.is_whole.ensures)
    c.fit_rows.ensures.taken
