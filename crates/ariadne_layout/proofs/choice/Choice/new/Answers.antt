use Rattle.std.proofs.Common.{refl, arith}
use Rattle.ariadne_picture.specs.Lists.{best}
use Rattle.ariadne_layout.proofs.choice.Choice.new.Goals as goal

-- of no labels none is shown
pub returns : goal.returns
unfolding best
returns c = record {
  begins = c.saturating_add.ensures;
  shows = refl;
  stays = λ k below. tt;
  goes_on = λ some. some;
  within = omega arith;
}
