use Rattle.std.proofs.Common.{◌≡◌, ◌∙◌, ap, length, min, rules, take}
use Rattle.std.proofs.lemmas.List.{take_min}
use Rattle.ariadne_matchers.proofs.marks.first_letters.Goals as goal

-- those up to a number, or to the end
pub returns : goal.returns
returns c =
    let at : c.min.result ≡ min 256 (length c.args.letters.now) = search rules in
    ap (λ n. take n c.args.letters.now) at ∙ take_min 256 c.args.letters.now
