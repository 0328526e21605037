use Rattle.ariadne_show.proofs.Proposing.{Settling}
use Rattle.ariadne_show.proofs.shelf.Shelf.settle_files.Given as goal

-- the proposals that are passed were settled, and the others are as they were
abbrev pub invariant-loop-proposal : goal.invariant-loop-proposal
invariant-loop-proposal g l =
    Settling l.search l.initial.proposals l.proposals l.proposal-index l.initial.self l.self
