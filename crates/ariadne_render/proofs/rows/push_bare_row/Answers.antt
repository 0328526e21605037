use Rattle.std.proofs.lemmas.Result.{on_ok_weaker}
use Rattle.ariadne_render.proofs.LineRows.{draws_bare}
use Rattle.ariadne_render.proofs.rows.push_bare_row.Goals as goal

-- a margin alone
pub returns : goal.returns
returns g c =
    let v = c.args.snippet.now in
    on_ok_weaker c.end_row.result
    (draws_bare c.args.pen.now v.texts v.section c.requires c.push_margin.new.self c.end_row.new.self c.args.line c.in_ok-push_margin.ensures)
    c.end_row.ensures
