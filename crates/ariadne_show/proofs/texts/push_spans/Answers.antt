use Rattle.std.proofs.Common.{◌≡◌, ◌∙◌, ◌+◌, ◌++◌, ◌∷◌, [], ap, append-nil, sym, take}
use Rattle.std.proofs.lemmas.List.{take_more}
use Rattle.ariadne_show.specs.TextDiagnostics.{said_spans, said_texts}
use Rattle.ariadne_show.proofs.Said.{and_more, spans_more}
use Rattle.ariadne_show.proofs.texts.push_spans.Goals as goal

-- none at first
pub loop-span-init : goal.loop-span-init
loop-span-init c = sym (append-nil (said_texts c.args.texts.now.items))

-- one span more in each turn
pub loop-span-preserved : goal.loop-span-preserved
loop-span-preserved c =
    let i = c.loop-span.span-index in
    let all = c.args.spans.now in
    let span = c.span-item.result in
    let more : take (i + 1) all ≡ take i all ++ span ∷ [] =
    take_more all i span c.loop-span-test.true ∙ ap (λ x. take i all ++ x ∷ []) (sym c.span-item.is) in
    and_more (said_texts c.args.texts.now.items) (said_texts c.loop-span.texts.items) (said_texts c.push_span.new.texts.items)
    (said_spans (take i all)) (said_spans (span ∷ [])) (said_spans (take (i + 1) all)) c.loop-span.invariant
    c.in_ok-push_span.ensures (spans_more (take i all) (take (i + 1) all) span more)
