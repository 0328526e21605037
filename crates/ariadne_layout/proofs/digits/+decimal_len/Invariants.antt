-- each call drops a digit
use Rattle.ariadne_layout.proofs.digits.+decimal_len.Given as goal

abbrev pub decreases-decimal_len : goal.decreases-decimal_len
decreases-decimal_len l = l.number
