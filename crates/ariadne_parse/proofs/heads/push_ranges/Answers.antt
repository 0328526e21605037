use Rattle.std.proofs.Common.{rules, ◌≡◌, ◌∙◌, ◌+◌, ◌-◌, ◌++◌, ap, arith, sym, map}
use Rattle.std.specs.Str.{IsUtf8}
use Rattle.ariadne_parse.specs.Heads.{ranges_in}
use Rattle.ariadne_parse.specs.Spans.{seen}
use Rattle.ariadne_parse.specs.ParsedDiagnostics.{other_spans, others_among}
use Rattle.ariadne_parse.specs.ParsedLines.{head_parsed}
use Rattle.ariadne_parse.proofs.Ranges.{others_done, others_on, others_past, ranges_end, ranges_past}
use Rattle.ariadne_parse.proofs.heads.push_ranges.Goals as goal
use Rattle.ariadne_parse.proofs.heads.push_ranges.Goals.{then-not-is_own+in_ok-span+in_ok-push, else-not-is_own}

-- a range has its span, or is the line's own
pub loop-turn-preserved : goal.loop-turn-preserved
loop-turn-preserved c =
    let text : IsUtf8 c.in-Some.behind.now = search rules in
    let head = head_parsed c.args.it.now in
    let whole = map seen c.args.spans.now.items ++ other_spans head c.args.counting in
    let same : map seen c.if-not-is_own.spans.items
    ++ others_among head c.args.counting (ranges_in (16 - (c.loop-turn.turn + 1)) c.in-Some.behind.now) ≡ whole =
    elim c.if-not-is_own.branch [
      | then-not-is_own+in_ok-span+in_ok-push w ↦
          others_on head c.args.counting c.loop-turn.turn c.loop-turn.rest.now c.in-Some.behind.now c.in-Some.start c.in-Some.end
          c.loop-turn.spans.items c.if-not-is_own.spans.items w.in_ok-span.span whole c.own_range-own.result (omega arith)
          c.in-Some.ensures c.own_range-own.ensures (sym w.if-not-is_own.ensures)
          (ap (λ v. v.items) w.spans-is ∙ w.in_ok-push.ensures.items) w.in_ok-span.ensures c.loop-turn.invariant.same
      | else-not-is_own w ↦
          ap (λ v. map seen v.items ++ others_among head c.args.counting (ranges_in (16 - (c.loop-turn.turn + 1)) c.in-Some.behind.now)) w.spans-is
          ∙ others_past head c.args.counting c.loop-turn.turn c.loop-turn.rest.now c.in-Some.behind.now c.in-Some.start c.in-Some.end
          c.loop-turn.spans.items whole c.own_range-own.result (omega arith) c.in-Some.ensures c.own_range-own.ensures
          (sym w.if-not-is_own.ensures) c.loop-turn.invariant.same
    ] in
    record { is_text = text; same = same }

-- 16 were read
pub returns-after-loop-turn : goal.returns-after-loop-turn
returns-after-loop-turn c =
    others_done (head_parsed c.args.it.now) c.args.counting (ranges_in (16 - c.loop-turn.turn) c.loop-turn.rest.now) c.loop-turn.spans.items _
    (ranges_past c.loop-turn.turn c.loop-turn.rest.now (omega arith)) c.loop-turn.invariant.same

-- no other stands there
pub returns-in_default : goal.returns-in_default
returns-in_default c =
    others_done (head_parsed c.args.it.now) c.args.counting (ranges_in (16 - c.loop-turn.turn) c.loop-turn.rest.now) c.loop-turn.spans.items _
    (ranges_end c.loop-turn.turn c.loop-turn.rest.now c.in_default.ensures) c.loop-turn.invariant.same
