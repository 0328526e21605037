-- Each character is asked, until one is shown as another.
use Rattle.std.proofs.Common.{rules, subst}
use Rattle.std.specs.List.{AllByRecursion}
use Rattle.std.specs.Prelude.{⊤}
use Rattle.std.specs.Str.{chars}
use Rattle.std.proofs.lemmas.Iterator.{YieldsList-from_chars, cases_from_all}
use Rattle.ariadne_picture.specs.Columns.{shown}
use Rattle.ariadne_render.specs.ShownTexts.{IsAsShown}
use Rattle.ariadne_render.proofs.ShownRows.{all_shown, printable_shown}
use Rattle.ariadne_render.proofs.shown.is_shown_whole.Goals as goal

-- printable ASCII is
pub returns-then-is_plain : goal.returns-then-is_plain
returns-then-is_plain c = λ on. printable_shown (shown c.args.layout.now) (c.is_plain.ensures.0 on)

-- of any other text each character is asked
pub returns-else-is_plain : goal.returns-else-is_plain
returns-else-is_plain c = λ on.
    let text = c.shown.result.now in
    let all = cases_from_all _ _ _ IsAsShown (λ d. ⊤) c.all.ensures.ran
    (YieldsList-from_chars text c.shown.utf8 c.chars.ensures.rest) (λ x q k. search rules) (λ x q k. tt) in
    subst (AllByRecursion IsAsShown) c.shown.ensures (all_shown (chars text) c.all.result all on)
