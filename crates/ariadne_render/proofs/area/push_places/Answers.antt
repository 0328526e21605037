use Rattle.std.proofs.Common.{◌+◌, arith}
use Rattle.std.proofs.lemmas.Result.{on_ok_weaker}
use Rattle.ariadne_render.specs.Areas.{DrawsOver}
use Rattle.ariadne_render.proofs.Areas.{draws_hidden, draws_none, draws_more, draws_unseen, draws_vertical}
use Rattle.ariadne_render.proofs.area.push_places.Goals as goal

-- a backdrop that hides the verticals is one run
pub returns-then-hides_verticals : goal.returns-then-hides_verticals
returns-then-hides_verticals c =
    on_ok_weaker c.push_stretch.result
    (draws_hidden c.args.pen.now c.push_stretch.new.pen c.args.table.now c.args.backdrop.now c.args.from c.args.to
    (c.hides_verticals.ensures c.if-hides_verticals.true))
    c.push_stretch.ensures

-- another is cut: nothing is written at first
pub loop-vertical-init : goal.loop-vertical-init
loop-vertical-init c = record {
  begun = omega arith;
  within = c.requires.order;
  drawn = draws_none c.args.pen.now c.args.table.now _ c.args.from;
}

-- a turn writes the places before the next vertical, and its own
pub loop-vertical-preserved : goal.loop-vertical-preserved
loop-vertical-preserved c =
    let table = c.args.table.now in
    let backdrop = c.args.backdrop.now in
    let v = c.in-Some.vertical in
    let seen = c.in-Some.ensures.some in
    let first = c.args.pen.now in
    let before = c.loop-vertical.pen in
    let between = c.push_stretch-in-Some.new.pen in
    let behind = c.push_ink.new.self in
    let from = c.args.from in
    let place = c.loop-vertical.place in
    let stretch : DrawsOver before between table backdrop place v.place =
    draws_unseen before between table backdrop place v.place seen.3 c.in_ok-push_stretch.ensures in
    let own : DrawsOver between behind table backdrop v.place (v.place + 1) =
    draws_vertical between behind table backdrop v c.ink.result c.width-width.result (omega arith) seen.2 c.ink.ensures c.width-width.ensures
    c.in_ok-push_ink.ensures in
    record {
      begun = omega arith;
      within = omega arith;
      drawn =
          draws_more first between behind table _ from v.place (v.place + 1) (omega arith) (omega arith)
          (draws_more first before between table _ from place v.place (omega arith) (omega arith) c.loop-vertical.invariant.drawn stretch) own;
    }

-- behind the last vertical there is none
pub returns : goal.returns
returns c =
    let table = c.args.table.now in
    let before = c.loop-vertical.pen in
    let behind = c.push_stretch-2.new.pen in
    let place = c.loop-vertical.place in
    let kept = c.loop-vertical.invariant in
    on_ok_weaker c.push_stretch-2.result
    (λ d. draws_more c.args.pen.now before behind table _ c.args.from place c.args.to kept.begun kept.within kept.drawn
    (draws_unseen before behind table c.args.backdrop.now place c.args.to (c.next.ensures.none c.in_default.is) d))
    c.push_stretch-2.ensures
