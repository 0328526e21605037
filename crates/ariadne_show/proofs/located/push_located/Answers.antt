use Rattle.std.proofs.Common.{◌∙◌, ◌++◌, ◌∷◌, [], ap, append-nil, append_assoc, map, sym, take}
use Rattle.std.proofs.lemmas.List.{map-append}
use Rattle.std.specs.Prelude.{List}
use Rattle.ariadne_outputs.specs.Located.{LocatedSpan, located_span_of, located_spans_of}
use Rattle.ariadne_show.specs.FoundSpans.{files_of}
use Rattle.ariadne_show.specs.LinesAndColumns.{located_in}
use Rattle.ariadne_show.proofs.Searching.{map_next}
use Rattle.ariadne_show.proofs.located.push_located.Goals as goal

-- none at first
pub loop-span-init : goal.loop-span-init
loop-span-init c = sym (append-nil (located_spans_of c.args.located.now.items))

-- one span more in each turn
pub loop-span-preserved : goal.loop-span-preserved
loop-span-preserved c =
    let at = located_in (files_of c.args.shelf.now) c.args.unit in
    let i = c.loop-span.span-index in
    let all = c.args.spans.now in
    let old = located_spans_of c.args.located.now.items in
    ap located_spans_of c.in_ok-push.ensures.items ∙ map-append located_span_of c.loop-span.located.items (c.located_span.result ∷ [])
    ∙ ap (λ (ls : List LocatedSpan). ls ++ located_span_of c.located_span.result ∷ []) c.loop-span.invariant
    ∙ append_assoc old (map at (take i all)) (located_span_of c.located_span.result ∷ [])
    ∙ ap (λ (l : LocatedSpan). old ++ (map at (take i all) ++ l ∷ [])) c.located_span.ensures
    ∙ ap (λ (ls : List LocatedSpan). old ++ ls) (sym (map_next at all i c.span-item.result c.loop-span-test.true c.span-item.is))
