use Rattle.std.proofs.Common.{◌≡◌, ◌∙◌, ℕ, List, [], ◌∷◌, ◌&&◌, refl, ap, rules, tests}
use Rattle.std.proofs.lemmas.Iterator.{YieldsList-from_slice}
use Rattle.std.proofs.lemmas.Iterator.Search.{all_from_yields_List}
use Rattle.std.specs.Char.{is_ascii_digit}
use Rattle.std.specs.List.{list_all}
use Rattle.std.specs.Str.{all_ascii_digits}
use Rattle.ariadne_matchers.proofs.lasts.has_digits_alone.Goals as goal

all_is : (text : List ℕ) → list_all is_ascii_digit text ≡ all_ascii_digits text
all_is [] = refl
all_is (c ∷ text) = ap (λ b. is_ascii_digit c && b) (all_is text)

-- each byte is a digit
pub returns : goal.returns
returns c =
    all_from_yields_List is_ascii_digit _ _ _ c.all.ensures.ran
    (YieldsList-from_slice c.args.text.now (cc (c.iter.ensures.rest, c.as_bytes.ensures.value))) (λ x b q k. search (rules, tests))
    ∙ all_is c.args.text.now
