use Rattle.std.proofs.Common.{◌≡◌, ◌∙◌, ◌+◌, ◌++◌, ◌∷◌, [], ap, sym, take}
use Rattle.std.proofs.lemmas.List.{take_more}
use Rattle.ariadne_show.specs.Writing.{none_passed}
use Rattle.ariadne_show.proofs.Passed.{lines_more}
use Rattle.ariadne_show.proofs.writing.pass_lines.Goals as goal

-- none at first
pub loop-line-init : goal.loop-line-init
loop-line-init g c = none_passed

-- one more in each turn
pub loop-line-preserved : goal.loop-line-preserved
loop-line-preserved g c =
    let i = c.loop-line.line-index in
    let all = c.args.lines.now in
    let line = c.line-item.result in
    let more : take (i + 1) all ≡ take i all ++ line ∷ [] =
    take_more all i line c.loop-line-test.true ∙ ap (λ x. take i all ++ x ∷ []) (sym c.line-item.is) in
    lines_more c.args.options.now all i line c.as_slice.result.now _ _ _ more c.as_slice.ensures.value c.loop-line.invariant
    c.in_ok-pass.ensures
