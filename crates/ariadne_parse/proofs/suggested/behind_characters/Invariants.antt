use Rattle.std.specs.Prelude.{◌≡◌, drop}
use Rattle.std.specs.Str.{chars, IsUtf8}
use Rattle.ariadne_parse.proofs.suggested.behind_characters.Given as goal

-- so many characters came off
abbrev pub invariant-loop-turn : goal.invariant-loop-turn
invariant-loop-turn l = record {
  is_text : IsUtf8 l.rest.rest.now;
  left : chars l.rest.rest.now ≡ drop l.turn (chars l.fn.text);
}
