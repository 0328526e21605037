use Rattle.std.proofs.Common.{rules, append_assoc, ◌++◌, OnOk, codes}
use Rattle.std.proofs.lemmas.Result.{on_ok_weaker}
use Rattle.ariadne_picture.specs.Pieces.{spaces}
use Rattle.ariadne_render.specs.Pages.{Adds}
use Rattle.ariadne_render.proofs.Drawn.{adds_same}
use Rattle.ariadne_render.proofs.HeaderBytes.{spaces_two}
use Rattle.ariadne_render.proofs.headers.push_indent.Goals as goal

-- two blanks more
pub returns : goal.returns
returns c =
    let w = c.args.pen.now.page.number_width in
    let chained : OnOk c.push_text.result (Adds c.args.pen.now c.push_text.new.self (spaces w ++ codes "  ")) = search (rules, append_assoc) in
    on_ok_weaker c.push_text.result (adds_same _ _ _ _ (spaces_two w)) chained
