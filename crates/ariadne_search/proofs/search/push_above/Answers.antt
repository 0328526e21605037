use Rattle.std.proofs.Common.{map}
use Rattle.std.specs.Prelude.{option_map}
use Rattle.ariadne_search.proofs.Lists.{above_end, above_on}
use Rattle.ariadne_search.proofs.search.push_above.Goals as goal

-- one folder more in each turn
pub loop-turn-preserved : goal.loop-turn-preserved
loop-turn-preserved c =
    above_on (map (λ folder. folder.now) c.loop-turn.folders.items) (map (λ folder. folder.now) c.push_if_any.new.folders.items) _
    (option_map (λ path. path.now) c.loop-turn.next) (option_map (λ path. path.now) c.parent_of-next.result) c.loop-turn.turn
    c.loop-turn-test.true c.in_ok-push_if_any.ensures c.parent_of-next.ensures c.loop-turn.invariant

-- 64 at most
pub returns : goal.returns
returns c =
    above_end (map (λ folder. folder.now) c.loop-turn.folders.items) _ (option_map (λ path. path.now) c.loop-turn.next) c.loop-turn.turn
    c.loop-turn-test.false c.loop-turn.invariant
