use Rattle.ariadne_snippets.specs.Snippets.{behind_gutter}
use Rattle.ariadne_snippets.proofs.snippet.Snippet.take_advised.Goals as goal

-- the line stands behind the gutter
pub returns-in-Some-clause-tells : goal.returns-in-Some-clause-tells
returns-in-Some-clause-tells c =
    λ line gutter is number text quoted.
    c.take_beside.ensures.tells line (behind_gutter gutter is number text) quoted

pub returns-in-None-clause-tells : goal.returns-in-None-clause-tells
returns-in-None-clause-tells c =
    λ line gutter is number text quoted.
    c.take_whole.ensures.tells line (behind_gutter gutter is number text) quoted
