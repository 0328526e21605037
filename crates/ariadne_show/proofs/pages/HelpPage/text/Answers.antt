-- Each page has its text.
use Rattle.std.proofs.Common.{refl}
use Rattle.ariadne_show.specs.HelpPages.{page_text}
use Rattle.ariadne_show.proofs.pages.HelpPage.text.Goals as goal

pub returns-in-Help : goal.returns-in-Help
unfolding page_text
returns-in-Help c = rw c.in-Help.is refl

pub returns-in-Version : goal.returns-in-Version
unfolding page_text
returns-in-Version c = rw c.in-Version.is refl
