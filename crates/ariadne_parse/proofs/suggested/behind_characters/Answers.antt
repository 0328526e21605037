use Rattle.std.proofs.Common.{◌≡◌, ◌∙◌, ap, arith}
use Rattle.std.specs.Prelude.{not}
use Rattle.std.specs.Str.{chars}
use Rattle.ariadne_parse.proofs.Characters.{left_is, past_all, past_char}
use Rattle.ariadne_parse.proofs.suggested.behind_characters.Goals as goal

-- none is left
pub returns-then-is_none : goal.returns-then-is_none
returns-then-is_none c =
    past_all _ c.loop-turn.rest.rest.now c.next.new.self.rest.now c.next.result c.loop-turn.turn c.args.count
    (chars c.args.text.now) c.loop-turn.invariant.left c.loop-turn-test.true (c.is_none.ensures ∙ ap not c.if-is_none.true)
    (c.next.ensures).steps.0

-- one came off
pub loop-turn-preserved : goal.loop-turn-preserved
loop-turn-preserved c =
    let past =
    past_char _ c.loop-turn.rest.rest.now c.next.new.self.rest.now c.next.result c.loop-turn.turn (chars c.args.text.now)
    c.loop-turn.invariant.is_text c.loop-turn.invariant.left (c.is_none.ensures ∙ ap not c.if-is_none.false)
    (c.next.ensures).steps.0 in record {
      is_text = past.0;
      left = past.1;
    }

-- so many did
pub returns : goal.returns
returns c =
    let all : c.loop-turn.turn ≡ c.args.count = omega arith in
    c.as_str.ensures
    ∙ left_is c.loop-turn.rest.rest.now c.args.text.now c.loop-turn.turn c.args.count c.loop-turn.invariant.is_text
    c.loop-turn.invariant.left all
