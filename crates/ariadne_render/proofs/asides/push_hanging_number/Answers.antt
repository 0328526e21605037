use Rattle.std.proofs.Common.{◌≡◌, ◌∷◌, [], ◌++◌, Some, decimal, length, sym, ap, ◌∙◌}
use Rattle.std.proofs.lemmas.Result.{on_ok_weaker}
use Rattle.ariadne_picture.specs.Pieces.{spaces}
use Rattle.ariadne_render.proofs.Drawn.{adds_none, adds_same, adds-append}
use Rattle.ariadne_render.specs.RowTexts.{aside_number}
use Rattle.ariadne_render.proofs.AsideRows.{hanging_none, hanging_number}
use Rattle.ariadne_render.proofs.asides.push_hanging_number.Goals as goal

-- a blank, and one for each digit
pub returns-in_ok-push_char-in-Some : goal.returns-in_ok-push_char-in-Some
unfolding lib.Utf8.encode
returns-in_ok-push_char-in-Some c =
    let n = c.in-Some.number in
    let told : c.args.number ≡ Some n = c.in-Some.is in
    let text = (32 ∷ []) ++ spaces (length (decimal n)) in
    let same : text ≡ spaces (length (aside_number c.args.number)) = hanging_number n ∙ ap (λ o. spaces (length (aside_number o))) (sym told) in
    on_ok_weaker c.push_spaces.result
    (λ h. adds_same c.args.pen.now c.push_spaces.new.self text _ same
    (adds-append c.args.pen.now c.push_char.new.self c.push_spaces.new.self (32 ∷ []) (spaces (length (decimal n))) c.in_ok-push_char-in-Some.ensures
    (adds_same c.push_char.new.self c.push_spaces.new.self _ _ (ap spaces c.decimal_len.ensures) h)))
    c.push_spaces.ensures

-- none for no number
pub returns-in-None : goal.returns-in-None
returns-in-None c =
    adds_same c.args.pen.now c.args.pen.now [] _ (sym (ap (λ o. spaces (length (aside_number o))) c.in-None.is ∙ hanging_none)) (adds_none c.args.pen.now)
