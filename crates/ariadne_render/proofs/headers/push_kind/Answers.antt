use Rattle.std.proofs.lemmas.Result.{on_ok_weaker}
use Rattle.ariadne_render.proofs.HeaderBytes.{draws_kind}
use Rattle.ariadne_render.proofs.headers.push_kind.Goals as goal

-- text after text, between what opens and what closes the colour
pub returns : goal.returns
unfolding lib.Utf8.encode
returns c =
    on_ok_weaker c.push_closing.result
    (draws_kind c.args.pen.now c.push_opening.new.self c.push_code.new.pen c.push_text.new.self c.push_char.new.self c.push_closing.new.self
    _ _ c.in_ok-push_opening.ensures c.in_ok-push_code.ensures c.in_ok-push_text.ensures c.in_ok-push_char.ensures)
    c.push_closing.ensures
