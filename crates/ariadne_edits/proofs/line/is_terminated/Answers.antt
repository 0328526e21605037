use Rattle.std.proofs.Common.{◌∙◌, sym, rules, tests}
use Rattle.std.proofs.lemmas.Iterator.{YieldsList-from_chars}
use Rattle.std.proofs.lemmas.Iterator.Search.{all_from_yields_List}
use Rattle.ariadne_base.specs.Lines.{is_separator}
use Rattle.ariadne_edits.proofs.LineTexts.{rest_text, terminated}
use Rattle.ariadne_edits.proofs.line.is_terminated.Goals as goal

-- what is left behind the shorter line has nothing but what ends a line
pub returns-in-Some : goal.returns-in-Some
returns-in-Some c = λ t.
    let bare = c.args.bare.now in
    let whole = c.args.whole.now in
    let rest = c.in-Some.rest.now in
    let text = rest_text bare whole rest c.utf8.whole c.in-Some.ensures.cases in
    let all = all_from_yields_List is_separator _ _ c.all.result c.all.ensures.ran (YieldsList-from_chars rest text cc) (λ x b q k. search (rules, tests)) in
    terminated bare whole rest c.utf8.whole c.in-Some.ensures.cases c.utf8.bare (sym all ∙ t)
