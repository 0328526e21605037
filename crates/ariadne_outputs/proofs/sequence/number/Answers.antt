use Rattle.std.proofs.Common.{◌≡◌, sym, ◌∙◌, arith, length, eqb, false}
use Rattle.std.proofs.lemmas.Bool.{eqb-false}
use Rattle.ariadne_outputs.proofs.Numbers.{number_is}
use Rattle.ariadne_outputs.proofs.sequence.number.Goals as goal

-- what is parsed is the number
pub returns : goal.returns
returns c =
    let some : eqb (length c.args.part.now) 0 ≡ false = sym c.is_empty.ensures ∙ c.if-is_empty.false in
    c.ok.ensures.value ∙ number_is c.args.part.now c.parse.result (omega (arith, eqb-false (length c.args.part.now) 0 some))
    (sym c.if-not-are_digits.ensures) c.parse.ensures.value.0
