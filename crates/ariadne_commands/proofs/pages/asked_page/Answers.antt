-- A word that is neither.
use Rattle.ariadne_commands.proofs.PageWords.{no_page}
use Rattle.ariadne_commands.proofs.pages.asked_page.Goals as goal

pub returns-in_default-as_str : goal.returns-in_default-as_str
returns-in_default-as_str c =
    let d = c.in_default-as_str in
    no_page _ c.word-item.result c.in-len1.len_at_least c.in-len1.len_below c.word-item.is
    (rw c.as_str.ensures.value at d.not-text) (rw c.as_str.ensures.value at d.not-text-2)
