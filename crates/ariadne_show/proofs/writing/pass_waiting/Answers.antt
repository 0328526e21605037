use Rattle.std.proofs.Common.{◌≡◌, ◌∙◌, ◌+◌, ◌++◌, ◌∷◌, [], ap, sym, take}
use Rattle.std.proofs.lemmas.List.{take_more}
use Rattle.ariadne_show.specs.Writing.{none_passed}
use Rattle.ariadne_show.proofs.Passed.{waiting_more}
use Rattle.ariadne_show.proofs.writing.pass_waiting.Goals as goal

-- none at first
pub loop-waiting-init : goal.loop-waiting-init
loop-waiting-init g c = none_passed

-- one more in each turn
pub loop-waiting-preserved : goal.loop-waiting-preserved
loop-waiting-preserved g c =
    let i = c.loop-waiting.waiting-index in
    let all = c.args.lines.now in
    let line = c.waiting-item.result in
    let more : take (i + 1) all ≡ take i all ++ line ∷ [] =
    take_more all i line c.loop-waiting-test.true ∙ ap (λ x. take i all ++ x ∷ []) (sym c.waiting-item.is) in
    waiting_more c.args.options.now all i line c.as_slice.result.now _ _ _ more c.as_slice.ensures.value c.loop-waiting.invariant
    c.in_ok-pass_lines.ensures
