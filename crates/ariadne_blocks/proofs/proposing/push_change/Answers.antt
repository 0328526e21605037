use Rattle.std.proofs.lemmas.Result.{on_ok_weaker}
use Rattle.ariadne_parse.specs.Proposed.{edit_of}
use Rattle.ariadne_blocks.specs.ProposedByRows.{way_of}
use Rattle.ariadne_blocks.proofs.Proposed.{changed_behind}
use Rattle.ariadne_blocks.proofs.proposing.push_change.Goals as goal

-- the change stands behind the last
pub returns-in-Some : goal.returns-in-Some
returns-in-Some c =
    on_ok_weaker c.push_behind.result
    (λ behind. changed_behind (way_of c.args.by) (edit_of c.args.change) c.args.proposals.now.items c.pop.new.self.items
    c.push_behind.new.proposals.items c.in-Some.last c.in-Some.ensures.items behind)
    c.push_behind.ensures
