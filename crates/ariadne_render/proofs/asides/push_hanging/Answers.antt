use Rattle.std.proofs.Common.{◌++◌, length, codes}
use Rattle.std.proofs.lemmas.Result.{on_ok_weaker}
use Rattle.ariadne_picture.specs.Pieces.{spaces}
use Rattle.ariadne_render.proofs.Drawn.{adds_same, adds-append}
use Rattle.ariadne_render.specs.RowTexts.{aside_number}
use Rattle.ariadne_render.proofs.AsideRows.{hanging}
use Rattle.ariadne_render.proofs.asides.push_hanging.Goals as goal

-- blanks behind blanks
pub returns : goal.returns
returns c =
    let m = length c.args.word.now in
    let n = length (aside_number c.args.number) in
    let numbered = adds-append c.args.pen.now c.push_spaces.new.self c.push_hanging_number.new.pen (spaces m) (spaces n) c.in_ok-push_spaces.ensures
    c.in_ok-push_hanging_number.ensures in
    on_ok_weaker c.push_text.result
    (λ h. adds_same c.args.pen.now c.push_text.new.self _ _ (hanging m n)
    (adds-append c.args.pen.now c.push_hanging_number.new.pen c.push_text.new.self (spaces m ++ spaces n) (codes "  ") numbered h))
    c.push_text.ensures
