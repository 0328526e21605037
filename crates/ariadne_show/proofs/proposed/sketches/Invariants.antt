use Rattle.std.specs.Prelude.{take}
use Rattle.ariadne_show.specs.FoundSpans.{files_of}
use Rattle.ariadne_show.specs.DrawnProposals.{AreSketched}
use Rattle.ariadne_show.specs.ReadFiles.{sources_in}
use Rattle.ariadne_show.proofs.proposed.sketches.Given as goal

-- the proposals that are passed are drawn, or left out
abbrev pub invariant-loop-proposal : goal.invariant-loop-proposal
invariant-loop-proposal l =
    AreSketched l.room (files_of l.shelf) (sources_in l.shelf) (take l.proposal-index l.proposals) l.all.items
