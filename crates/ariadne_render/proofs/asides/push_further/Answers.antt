use Rattle.std.proofs.lemmas.Result.{on_ok_weaker}
use Rattle.ariadne_render.proofs.AsideRows.{draws_further}
use Rattle.ariadne_render.proofs.asides.push_further.Goals as goal

-- the line behind blanks
pub returns : goal.returns
returns c =
    on_ok_weaker c.push_text.result
    (draws_further c.args.pen.now c.push_hanging.new.pen c.push_text.new.self c.args.word.now c.args.number c.args.line.now
    c.in_ok-push_hanging.ensures)
    c.push_text.ensures
