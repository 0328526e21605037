use Rattle.std.proofs.Common.{rules, ◌∙◌, refl, arith, sym}
use Rattle.std.specs.Str.{IsUtf8}
use Rattle.ariadne_parse.specs.Heads.{is_among}
use Rattle.ariadne_parse.specs.ParsedDiagnostics.{own_range_of}
use Rattle.ariadne_parse.specs.ParsedLines.{head_parsed}
use Rattle.ariadne_parse.proofs.Ranges.{range_found, range_none, range_passed, range_past}
use Rattle.ariadne_parse.proofs.heads.own_range.Goals as goal

pub loop-turn-init : goal.loop-turn-init
unfolding own_range_of
loop-turn-init c =
    let text : IsUtf8 c.args.it.now.ranges.now = search rules in
    record { is_text = text; same = refl }

-- no range is left
pub returns-in_err-start : goal.returns-in_err-start
returns-in_err-start c =
    c.from_residual.ensures
    ∙ range_none (is_among c.args.it.now.start) c.loop-turn.turn c.loop-turn.rest.now (own_range_of (head_parsed c.args.it.now))
    c.in_err-start.ensures c.loop-turn.invariant.same

-- this one has the span
pub returns-then-is_among : goal.returns-then-is_among
returns-then-is_among c =
    range_found (is_among c.args.it.now.start) c.loop-turn.turn c.loop-turn.rest.now c.in_ok-start.behind.now c.in_ok-start.start
    c.in_ok-start.end (own_range_of (head_parsed c.args.it.now)) (omega arith) c.in_ok-start.ensures c.loop-turn.invariant.same
    (sym c.if-is_among.ensures)

-- it has not
pub loop-turn-preserved : goal.loop-turn-preserved
loop-turn-preserved c =
    let text : IsUtf8 c.in_ok-start.behind.now = search rules in
    record {
      is_text = text;
      same = range_passed (is_among c.args.it.now.start) c.loop-turn.turn c.loop-turn.rest.now c.in_ok-start.behind.now c.in_ok-start.start
          c.in_ok-start.end (own_range_of (head_parsed c.args.it.now)) (omega arith) c.in_ok-start.ensures c.loop-turn.invariant.same
          (sym c.if-is_among.ensures);
    }

-- none has
pub returns : goal.returns
returns c =
    range_past (is_among c.args.it.now.start) c.loop-turn.turn c.loop-turn.rest.now (own_range_of (head_parsed c.args.it.now))
    (omega arith) c.loop-turn.invariant.same
