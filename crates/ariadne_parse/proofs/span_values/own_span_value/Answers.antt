use Rattle.std.proofs.Common.{◌∙◌, ◌+◌, ◌-◌, arith, sym}
use Rattle.serde_json.specs.View.{view}
use Rattle.ariadne_parse.proofs.Calls.{own_end, own_here, own_last, own_next}
use Rattle.ariadne_parse.proofs.span_values.own_span_value.Goals as goal

-- the span is the user's own
pub returns-then-is_own : goal.returns-then-is_own
returns-then-is_own c =
    sym (own_here (64 - c.loop-turn.turn) (view c.loop-turn.at.now) (sym c.is_own.ensures ∙ c.if-is_own.true)) ∙ c.loop-turn.invariant

-- no call made it
pub returns-in_default : goal.returns-in_default
returns-in_default c =
    sym (own_last (64 - c.loop-turn.turn) (view c.loop-turn.at.now) (sym c.in_default.ensures)) ∙ c.loop-turn.invariant

-- one did
pub loop-turn-preserved : goal.loop-turn-preserved
loop-turn-preserved c =
    sym (own_next (64 - c.loop-turn.turn) (64 - (c.loop-turn.turn + 1)) (view c.loop-turn.at.now) (view c.in-Some.call.now) (omega arith)
    (sym c.is_own.ensures ∙ c.if-is_own.false) (sym c.in-Some.ensures))
    ∙ c.loop-turn.invariant

-- no more are followed
pub returns : goal.returns
returns c = sym (own_end (64 - c.loop-turn.turn) (view c.loop-turn.at.now) (omega arith)) ∙ c.loop-turn.invariant
