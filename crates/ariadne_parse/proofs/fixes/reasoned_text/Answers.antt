-- A change more goes on with the help.
use Rattle.std.proofs.Common.{◌≡◌, ◌∙◌, ◌++◌, ap, append_assoc, refl, sym}
use Rattle.std.specs.Prelude.{codes, map, string_bytes}
use Rattle.std.specs.List.{concat}
use Rattle.ariadne_parse.specs.Fixes.{further_words}
use Rattle.ariadne_parse.proofs.Loops.{all_made, one_more}
use Rattle.ariadne_parse.proofs.fixes.reasoned_text.Goals as goal

pub loop-change-init : goal.loop-change-init
loop-change-init c =
    ap (λ help. help ++ concat (map further_words (map string_bytes c.args.others.now)))
    (c.in_ok-help.ensures.ok ∙ sym (append_assoc c.args.why.now (codes ": ") c.args.first.now))

pub loop-change-preserved : goal.loop-change-preserved
loop-change-preserved c =
    one_more (λ l. concat (map further_words (map string_bytes l))) (λ l. concat (map further_words (map string_bytes l)))
    c.args.others.now c.loop-change.change-index c.change-item.result (string_bytes c.loop-change.help)
    (further_words (string_bytes c.change-item.result)) (string_bytes c.push_further.new.help) _ c.loop-change-test.true
    c.change-item.is refl
    (c.in_ok-push_further.ensures ∙ ap (λ change. string_bytes c.loop-change.help ++ further_words change) c.as_str.ensures.value)
    c.loop-change.invariant

pub returns : goal.returns
returns c =
    all_made (λ l. concat (map further_words (map string_bytes l))) c.args.others.now c.loop-change.change-index _ _
    c.loop-change-test.false refl c.loop-change.invariant
