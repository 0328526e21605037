use Rattle.std.proofs.Common.{rules, arith, string_bytes}
use Rattle.std.proofs.lemmas.Result.{IfOk-weaker}
use Rattle.std.specs.Str.{IsUtf8}
use Rattle.serde_json.specs.View.{view}
use Rattle.ariadne_sarif.proofs.Filled.{brace_none, brace_passed, brace_past}
use Rattle.ariadne_sarif.proofs.sarif_messages.filled.Goals as goal

-- a brace is passed
pub loop-turn-preserved : goal.loop-turn-preserved
loop-turn-preserved c =
    let text : IsUtf8 c.braced.result.1.now = search rules in
    record {
      is_text = text;
      same = brace_passed (view c.args.message.now) c.in-Some.is_closing c.loop-turn.turn c.args.text.now c.loop-turn.rest.now
          c.in-Some.front.now c.in-Some.behind.now c.braced.result.0.now c.braced.result.1.now (string_bytes c.loop-turn.all)
          (string_bytes c.push_str.new.self) (string_bytes c.push_str-in-loop-turn.new.self) (omega arith) c.in-Some.ensures c.braced.ensures
          c.in_ok-push_str.ensures.bytes c.in_ok-push_str-2.ensures.bytes c.loop-turn.invariant.same;
    }

-- none stands there
pub returns-in_default : goal.returns-in_default
returns-in_default c =
    IfOk-weaker c.with_rest.result _ _
    (λ all more. brace_none (view c.args.message.now) c.loop-turn.turn c.args.text.now c.loop-turn.rest.now (string_bytes c.loop-turn.all) (string_bytes all)
    c.in_default.ensures more c.loop-turn.invariant.same)
    c.with_rest.ensures

-- no turn is left
pub returns : goal.returns
returns c =
    IfOk-weaker c.with_rest-2.result _ _
    (λ all more. brace_past (view c.args.message.now) c.loop-turn.turn c.args.text.now c.loop-turn.rest.now (string_bytes c.loop-turn.all) (string_bytes all)
    (omega arith) more c.loop-turn.invariant.same)
    c.with_rest-2.ensures
