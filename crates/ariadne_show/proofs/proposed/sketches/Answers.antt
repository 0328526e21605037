use Rattle.std.proofs.Common.{◌≡◌, ◌∙◌, ◌+◌, ◌++◌, ◌∷◌, [], ap, subst, sym, take}
use Rattle.std.proofs.lemmas.List.{take_more}
use Rattle.ariadne_show.specs.FoundSpans.{files_of}
use Rattle.ariadne_show.specs.DrawnProposals.{none_sketched, AreSketched}
use Rattle.ariadne_show.specs.ReadFiles.{sources_in}
use Rattle.ariadne_show.proofs.Proposing.{sketched_more}
use Rattle.ariadne_show.proofs.proposed.sketches.Goals as goal

-- none at first
pub loop-proposal-init : goal.loop-proposal-init
loop-proposal-init c =
    subst (AreSketched c.args.room (files_of c.args.shelf.now) (sources_in c.args.shelf.now) [])
    (sym c.new-all.ensures.items) none_sketched

-- one more in each turn
pub loop-proposal-preserved : goal.loop-proposal-preserved
loop-proposal-preserved c =
    let i = c.loop-proposal.proposal-index in
    let all = c.args.proposals.now in
    let proposal = c.proposal-item.result in
    let more : take (i + 1) all ≡ take i all ++ proposal ∷ [] =
    take_more all i proposal c.loop-proposal-test.true ∙ ap (λ x. take i all ++ x ∷ []) (sym c.proposal-item.is) in
    sketched_more c.args.room (files_of c.args.shelf.now) (sources_in c.args.shelf.now) (take i all) (take (i + 1) all)
    c.loop-proposal.all.items c.push_sketch.new.all.items proposal c.in_ok-sketch_of.field-0 more c.in_ok-push_sketch.ensures
    c.loop-proposal.invariant c.in_ok-sketch_of.ensures
