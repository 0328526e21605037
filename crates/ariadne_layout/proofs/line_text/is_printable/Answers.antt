use Rattle.std.proofs.Common.{◌≡◌, ◌&&◌, nat_le, true, fold, ◌∙◌, sym, rules, tests}
use Rattle.std.proofs.lemmas.Iterator.{YieldsList-from_slice}
use Rattle.std.proofs.lemmas.Iterator.Consumers.{fold_from_yields_List}
use Rattle.ariadne_layout.proofs.Layouts.{printable-chars, chars-printable}
use Rattle.ariadne_layout.proofs.line_text.is_printable.Goals as goal

-- each byte was tested
pub returns : goal.returns
returns c =
    let bs = c.args.text.now in
    let all : c.fold.result ≡ fold (λ a b. a && (nat_le 32 b && nat_le b 126)) true bs =
    fold_from_yields_List _ (λ a b. a && (nat_le 32 b && nat_le b 126)) true c.fold.result c.fold.ensures.ran
    (YieldsList-from_slice bs (c.iter.ensures.rest ∙ c.as_bytes.ensures.value)) (λ a x b q k. search (rules, tests)) in
    (λ is. printable-chars bs (sym all ∙ search rules), λ each. search (rules, all ∙ chars-printable bs c.utf8.text each))
