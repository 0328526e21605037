use Rattle.ariadne_snippets.specs.Snippets.{in_place}
use Rattle.ariadne_snippets.proofs.snippet.Snippet.take_inserted.Goals as goal

-- it stands in place of a line that goes
pub returns-then-eq-clause-tells : goal.returns-then-eq-clause-tells
returns-then-eq-clause-tells c = λ line is. c.take_whole.ensures.tells line (in_place is) _

pub returns-then-eq-clause-ends : goal.returns-then-eq-clause-ends
returns-then-eq-clause-ends c = c.take_whole.ensures.ends c.args.self.now
