-- The text has 19 characters, so the place ends within it.
use Rattle.std.proofs.Common.{◌≡◌, length, refl, arith}
use Rattle.std.specs.Prelude.{codes}
use Rattle.std.specs.Str.{chars}
use Rattle.ariadne_examples.proofs.calling.all_of_it_is_drawn.Goals as goal

pub tell-left_out-requires-clause-within : goal.tell-left_out-requires-clause-within
unfolding chars
tell-left_out-requires-clause-within c =
    let size : length (chars (codes "let pie = aple + 1;")) ≡ 19 = refl in omega (arith, size)
