use Rattle.std.proofs.Common.{◌∙◌, sym}
use Rattle.ariadne_show.proofs.finder.Finder.opened.Goals as goal

-- the file of its first span is not held
pub returns-else-branch-clause-opened : goal.returns-else-branch-clause-opened
returns-else-branch-clause-opened g c = record {
  opened = c.open.new.parsed;
  files = c.in_ok-open.ensures.opened;
  unheld = sym c.in_ok-open.ensures.held ∙ c.if-branch.false;
}
