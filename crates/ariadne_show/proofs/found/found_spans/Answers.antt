use Rattle.std.proofs.Common.{◌≡◌, ◌∙◌, ◌+◌, ◌++◌, ◌∷◌, [], ap, sym, map, take}
use Rattle.std.proofs.lemmas.List.{take_more}
use Rattle.ariadne_show.specs.FoundSpans.{files_of, found_of}
use Rattle.ariadne_show.proofs.Ordered.{found_more}
use Rattle.ariadne_show.proofs.found.found_spans.Goals as goal

-- none at first
pub loop-span-init : goal.loop-span-init
loop-span-init c = ap (map found_of) c.new-found.ensures.items

-- one span more in each turn
pub loop-span-preserved : goal.loop-span-preserved
loop-span-preserved c =
    let i = c.loop-span.span-index in
    let all = c.args.spans.now in
    let span = c.span-item.result in
    let more : take (i + 1) all ≡ take i all ++ span ∷ [] =
    take_more all i span c.loop-span-test.true ∙ ap (λ x. take i all ++ x ∷ []) (sym c.span-item.is) in
    ap (map found_of) c.in_ok-add_found.ensures
    ∙ found_more (files_of c.args.shelf.now) (take i all) (take (i + 1) all) span c.loop-span.found.items
    c.found_span.result c.loop-span.invariant c.found_span.ensures.found more
