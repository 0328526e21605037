use Rattle.std.proofs.lemmas.Result.{on_ok_weaker}
use Rattle.ariadne_render.proofs.AsideRows.{draws_prefix}
use Rattle.ariadne_render.proofs.asides.push_prefix.Goals as goal

-- text after text, between what opens and what closes the colour
pub returns : goal.returns
returns c =
    on_ok_weaker c.push_closing.result
    (draws_prefix c.args.pen.now c.push_opening.new.self c.push_text.new.self c.push_aside_number.new.pen c.push_closing.new.self
    c.args.word.now c.args.number c.in_ok-push_opening.ensures c.in_ok-push_text.ensures c.in_ok-push_aside_number.ensures)
    c.push_closing.ensures
