use Rattle.std.proofs.Common.{sym, subst}
use Rattle.std.proofs.lemmas.Result.{on_ok_weaker}
use Rattle.ariadne_render.specs.Pages.{Draws}
use Rattle.ariadne_render.proofs.Drawn.{draws_none}
use Rattle.ariadne_render.proofs.LineRows.{draws_message, message_none}
use Rattle.ariadne_render.proofs.rows.push_message.Goals as goal

-- where the label starts it shows none
pub returns-in-Starts : goal.returns-in-Starts
returns-in-Starts g c =
    subst (Draws c.args.pen.now c.args.pen.now) (sym (message_none c.args.shown.now.snippet.texts c.args.own.now c.in-Starts.is))
    (draws_none c.args.pen.now)

-- elsewhere it stands behind a blank
pub returns-in_ok-push_char-in-Inline : goal.returns-in_ok-push_char-in-Inline
unfolding lib.Utf8.encode
returns-in_ok-push_char-in-Inline g c =
    on_ok_weaker c.push_text.result
    (draws_message c.args.pen.now c.push_char.new.self c.push_text.new.self c.args.shown.now.snippet.texts c.args.own.now c.message_of.result.now
    c.in-Inline.is (sym c.message_of.ensures) c.in_ok-push_char-in-Inline.ensures)
    c.push_text.ensures
