use Rattle.std.proofs.lemmas.Result.{on_ok_weaker}
use Rattle.ariadne_render.proofs.ShownRows.{draws_tab}
use Rattle.ariadne_render.proofs.shown.push_tab.Goals as goal

-- to make room writes nothing
pub returns : goal.returns
returns c =
    on_ok_weaker c.push_run.result
    (draws_tab c.args.pen.now c.reserve.new.self c.push_run.new.self c.args.paint c.args.columns c.in_ok-reserve.ensures)
    c.push_run.ensures
