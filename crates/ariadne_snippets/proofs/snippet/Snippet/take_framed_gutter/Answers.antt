use Rattle.std.proofs.Common.{refl}
use Rattle.ariadne_snippets.specs.Gutters.{gutter_told}
use Rattle.ariadne_snippets.proofs.snippet.Snippet.take_framed_gutter.Goals as goal

-- a line stands there as it is to be
pub returns-in-Some-clause-tells : goal.returns-in-Some-clause-tells
returns-in-Some-clause-tells c =
    λ line is end. c.take_advised.ensures.tells line (gutter_told c.args.gutter.now) is c.in-Some.is refl c.args.self.now.quoted

pub returns-in-Some-clause-ends : goal.returns-in-Some-clause-ends
returns-in-Some-clause-ends c = c.take_advised.ensures.ends c.args.self.now

-- or a quote
pub returns-in-Some-2-clause-tells : goal.returns-in-Some-2-clause-tells
returns-in-Some-2-clause-tells c = λ line is end. c.take_drawn_quote.ensures.tells line
