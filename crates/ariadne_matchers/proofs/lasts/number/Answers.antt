use Rattle.std.proofs.Common.{◌∙◌, sym}
use Rattle.ariadne_matchers.proofs.Numbers.{no_number, number_is}
use Rattle.ariadne_matchers.proofs.lasts.number.Goals as goal

-- it is that of the digits
pub returns-then-has_digits_alone : goal.returns-then-has_digits_alone
returns-then-has_digits_alone c =
    c.ok.ensures.value ∙ number_is c.args.text.now c.parse.result c.parse.ensures.value.0 (sym c.if-has_digits_alone.ensures)

-- there is none
pub returns-else-has_digits_alone : goal.returns-else-has_digits_alone
returns-else-has_digits_alone c = no_number c.args.text.now (sym c.if-has_digits_alone.ensures)
