use Rattle.std.proofs.Common.{◌∙◌, ap}
use Rattle.std.proofs.lemmas.List.{take_all}
use Rattle.std.specs.Prelude.{map}
use Rattle.ariadne_matchers.proofs.Lists.{one_more}
use Rattle.ariadne_matchers.specs.MatchedRows.{row_in, row_of}
use Rattle.ariadne_matchers.proofs.rows.EntrySearch.new.Goals as goal

-- one more row
pub loop-row-preserved : goal.loop-row-preserved
loop-row-preserved c =
    ap (map row_of) c.in_ok-push.ensures.items
    ∙ one_more row_of row_in c.loop-row.rows.items _ c.deref-row-items.result.now c.loop-row.row-index c.row-item.result
    c.loop-row-test.true c.row-item.is c.loop-row.invariant c.in_ok-new.ensures

-- all of them
pub returns-clause-rows : goal.returns-clause-rows
returns-clause-rows c =
    c.loop-row.invariant
    ∙ ap (map row_in) (take_all c.loop-row.row-index c.deref-row-items.result.now c.loop-row-test.false ∙ c.deref-row-items.ensures.value)
