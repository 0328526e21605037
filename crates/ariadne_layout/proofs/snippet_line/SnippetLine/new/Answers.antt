-- What is known of a snippet, and its layout.
use Rattle.ariadne_layout.proofs.snippet_line.SnippetLine.new.Goals as goal

pub invariant_of-result : goal.invariant_of-result
invariant_of-result g c = (c.requires.is, c.requires.within, c.requires.layout)
