use Rattle.std.proofs.lemmas.Result.{on_ok_weaker}
use Rattle.ariadne_render.specs.RowTexts.{prefix_text}
use Rattle.ariadne_render.proofs.AsideRows.{draws_first}
use Rattle.ariadne_render.proofs.asides.push_first.Goals as goal

-- the line behind its word
pub returns : goal.returns
returns c =
    on_ok_weaker c.push_text-2.result
    (draws_first c.args.pen.now c.push_prefix.new.pen c.push_text.new.self c.push_text-2.new.self (prefix_text c.args.word.now c.args.number)
    c.args.line.now c.in_ok-push_prefix.ensures c.in_ok-push_text.ensures)
    c.push_text-2.ensures
