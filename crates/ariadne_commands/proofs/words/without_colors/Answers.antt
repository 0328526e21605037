-- The words of a page stay, and before others stands one more.
use Rattle.std.proofs.Common.{rules, sym}
use Rattle.ariadne_commands.proofs.PageWords.{page_stays}
use Rattle.ariadne_commands.proofs.PlainWords.{plain_inserted}
use Rattle.ariadne_commands.proofs.words.without_colors.Goals as goal

pub returns-then-is_some-clause-report : goal.returns-then-is_some-clause-report
returns-then-is_some-clause-report c =
    page_stays _ c.asked_page.result (sym (rw c.as_slice.ensures.value at c.asked_page.ensures)) (search rules)

pub returns-clause-report : goal.returns-clause-report
returns-clause-report c = plain_inserted _ _ c.in_ok-from_str.field-0 c.in_ok-insert.ensures.items c.in_ok-from_str.ensures.ok
