use Rattle.ariadne_snippets.specs.Snippets.{same_line}
use Rattle.ariadne_snippets.proofs.snippet.Snippet.take_strokes.Goals as goal

-- the line is the same
pub returns-clause-quotes : goal.returns-clause-quotes
returns-clause-quotes c =
    λ source. same_line c.in-Some.quoted c.take_bars.new.self c.in-Some.is c.begun_by.ensures.quoted c.take_bars.ensures
