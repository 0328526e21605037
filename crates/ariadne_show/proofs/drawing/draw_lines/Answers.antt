use Rattle.std.proofs.Common.{◌≡◌, ◌∙◌, ◌+◌, ◌++◌, ◌∷◌, [], ap, sym, take}
use Rattle.std.proofs.lemmas.List.{take_all, take_more}
use Rattle.ariadne_show.specs.Drawn.{nothing_said}
use Rattle.ariadne_show.specs.TextDiagnostics.{said_texts}
use Rattle.ariadne_show.proofs.Said.{all_said, said_more}
use Rattle.ariadne_show.proofs.drawing.draw_lines.Goals as goal

-- none at first
pub loop-text-init : goal.loop-text-init
loop-text-init g c = nothing_said

-- one more in each turn
pub loop-text-preserved : goal.loop-text-preserved
loop-text-preserved g c =
    let i = c.loop-text.text-index in
    let all = c.deref-text-items.result.now in
    let text = c.text-item.result in
    let more : take (i + 1) all ≡ take i all ++ text ∷ [] =
    take_more all i text c.loop-text-test.true ∙ ap (λ x. take i all ++ x ∷ []) (sym c.text-item.is) in
    said_more c.args.style (take i all) (take (i + 1) all) text c.as_str.result.now _ _ _ more c.as_str.ensures.value c.loop-text.invariant
    c.in_ok-draw_text.ensures

-- all are
pub returns : goal.returns
returns g c =
    all_said c.args.style c.deref-text-items.result.now c.loop-text.text-index _ _ _
    (take_all c.loop-text.text-index c.deref-text-items.result.now c.loop-text-test.false)
    (ap said_texts c.deref-text-items.ensures.value ∙ c.in_ok-texts.ensures) c.loop-text.invariant
