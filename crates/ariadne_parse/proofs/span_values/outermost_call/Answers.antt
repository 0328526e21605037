use Rattle.std.proofs.Common.{◌∙◌, ◌+◌, ◌-◌, ap, arith, sym, Bor, Option}
use Rattle.std.specs.Prelude.{option_map}
use Rattle.std.specs.Option.{option_or}
use Rattle.serde_json.specs.Data.{Data}
use Rattle.serde_json.specs.View.{view}
use Rattle.serde_json.specs.declared.value.Value.{Value}
use Rattle.ariadne_parse.proofs.Calls.{or_view, outermost_end, outermost_last, outermost_next}
use Rattle.ariadne_parse.specs.Rustc.{outermost_within}
use Rattle.ariadne_parse.proofs.span_values.outermost_call.Goals as goal

-- no call made the span
pub returns-in_default : goal.returns-in_default
returns-in_default c =
    ap (λ (o : Option Data). option_or o (option_map (λ v. view v.now) c.loop-turn.outermost))
    (sym (outermost_last (64 - c.loop-turn.turn) (view c.loop-turn.at.now) (sym c.in_default.ensures)))
    ∙ c.loop-turn.invariant

-- one did
pub loop-turn-preserved : goal.loop-turn-preserved
loop-turn-preserved c =
    let f = λ (v : Bor Value). view v.now in
    let n = 64 - (c.loop-turn.turn + 1) in
    let call = view c.in-Some.call.now in
    let so_far = c.loop-turn.outermost in
    ap (λ (o : Option Data). option_or (outermost_within n call) o)
    (ap (λ (o : Option (Bor Value)). option_map f o) c.or-outermost.ensures
    ∙ or_view c.macro_call_of.result so_far
    ∙ ap (λ (o : Option Data). option_or o (option_map f so_far)) c.macro_call_of.ensures)
    ∙ sym (outermost_next (64 - c.loop-turn.turn) n (view c.loop-turn.at.now) call (option_map f so_far) (omega arith) (sym c.in-Some.ensures))
    ∙ c.loop-turn.invariant

-- no more are followed
pub returns : goal.returns
returns c =
    ap (λ (o : Option Data). option_or o (option_map (λ v. view v.now) c.loop-turn.outermost))
    (sym (outermost_end (64 - c.loop-turn.turn) (view c.loop-turn.at.now) (omega arith)))
    ∙ c.loop-turn.invariant
