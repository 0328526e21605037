-- The header of a snippet, and the row below it.
use Rattle.std.proofs.lemmas.Result.{on_ok_weaker}
use Rattle.ariadne_render.proofs.GroupRows.{head_long, head_short}
use Rattle.ariadne_render.proofs.frames.push_head.Goals as goal

-- a compact picture has no row below
pub returns-then-switches : goal.returns-then-switches
returns-then-switches g c =
    let v = c.args.snippet.now in
    head_short v.texts v.section c.args.pen.now c.push_group_header.new.pen c.page.result.now c.switches.result.now
    c.in_ok-push_group_header.ensures
    c.page.ensures c.switches.ensures.switches c.if-switches.true

-- any other has one
pub returns : goal.returns
returns g c =
    let v = c.args.snippet.now in
    on_ok_weaker c.push_spacer.result
    (head_long v.texts v.section c.args.pen.now c.push_group_header.new.pen c.push_spacer.new.pen c.page.result.now c.switches.result.now
    c.in_ok-push_group_header.ensures
    c.page.ensures c.switches.ensures.switches c.if-switches.false c.requires.switches)
    c.push_spacer.ensures
