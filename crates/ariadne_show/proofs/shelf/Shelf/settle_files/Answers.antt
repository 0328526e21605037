use Rattle.std.proofs.Common.{arith, refl, subst, sym}
use Rattle.ariadne_parse.specs.declared.diagnostic.Proposal.{Proposal}
use Rattle.ariadne_show.specs.ReadFiles.{IsFileSettledNow}
use Rattle.ariadne_show.proofs.Proposing.{settled_more}
use Rattle.ariadne_show.proofs.shelf.Shelf.settle_files.Goals as goal

-- one proposal more in each turn
pub loop-proposal-preserved : goal.loop-proposal-preserved
loop-proposal-preserved g c =
    settled_more c.args.search.now c.args.proposals.now c.loop-proposal.proposals _ c.loop-proposal.proposal-index
    c.proposal-item.result c.settle_file.new.proposal c.args.self.now c.loop-proposal.self c.settle_file.new.self
    (omega (arith, c.loop-proposal-test.true, c.loop-proposal.auto.proposals)) c.proposal-item.is refl
    c.loop-proposal.invariant
    (subst (λ (x : Proposal). IsFileSettledNow c.args.search.now x c.settle_file.new.proposal c.loop-proposal.self c.settle_file.new.self)
    (sym c.proposal-item.is) c.in_ok-settle_file.ensures)
