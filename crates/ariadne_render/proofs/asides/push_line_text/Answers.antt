use Rattle.std.proofs.Common.{subst}
use Rattle.std.proofs.lemmas.Result.{on_ok_weaker}
use Rattle.ariadne_render.specs.Pages.{Draws}
use Rattle.ariadne_render.proofs.AsideRows.{told_first, told_further}
use Rattle.ariadne_render.proofs.asides.push_line_text.Goals as goal

-- the first line behind its word
pub returns-then-index-eq0 : goal.returns-then-index-eq0
returns-then-index-eq0 c =
    on_ok_weaker c.push_first.result
    (subst (Draws c.args.pen.now c.push_first.new.pen) (told_first c.args.word.now c.args.number c.args.index c.args.line.now c.if-index-eq0.true))
    c.push_first.ensures

-- another below it
pub returns-else-index-eq0 : goal.returns-else-index-eq0
returns-else-index-eq0 c =
    on_ok_weaker c.push_further.result
    (subst (Draws c.args.pen.now c.push_further.new.pen) (told_further c.args.word.now c.args.number c.args.index c.args.line.now c.if-index-eq0.false))
    c.push_further.ensures
