use Rattle.ariadne_render.proofs.Copies.{repeated_blank}
use Rattle.ariadne_render.proofs.runs.push_spaces.Goals as goal

-- copies of a blank are blanks
pub returns : goal.returns
unfolding lib.Utf8.encode
returns c = rw (← repeated_blank c.args.count) c.push_repeated.ensures
