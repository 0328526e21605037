use Rattle.std.proofs.Common.{refl}
use Rattle.ariadne_layout.proofs.Halved.{halved-numbers, halved-labels}
use Rattle.ariadne_layout.proofs.candidates.Candidates.halves.Goals as goal

-- the numbers are more
pub returns-then-self : goal.returns-then-self
returns-then-self c =
    halved-numbers c.args.self.now c.split_at.result.0 c.split_at.result.1 _ c.requires.some c.if-self.true c.requires.there c.split_at.ensures.front
    c.split_at.ensures.back refl

-- the labels of the line are
pub returns-else-self : goal.returns-else-self
returns-else-self c =
    halved-labels c.args.self.now c.split_at-else-self.result.0 c.split_at-else-self.result.1 _ c.requires.some c.if-self.false c.requires.there
    c.split_at-else-self.ensures.front c.split_at-else-self.ensures.back refl
