use Rattle.std.proofs.Common.{◌≡◌, ◌+◌, ◌/◌, ◌%◌, ◌++◌, ◌∷◌, [], arith, decimal, length-append}
use Rattle.std.proofs.lemmas.Fmt.{decimal_step, length-decimal-le_succ}
use Rattle.ariadne_layout.proofs.digits.+decimal_len.Goals as goal

-- a number has at most as many digits as itself, and one more
pub overflow_add-result : goal.overflow_add-result
overflow_add-result t c = omega (arith, length-decimal-le_succ (c.args.number / 10) (omega arith))

-- the last digit stands behind the digits of a tenth
pub returns-else-number-lt10 : goal.returns-else-number-lt10
returns-else-number-lt10 t c =
    let n = c.args.number in
    let digits : decimal n ≡ decimal (n / 10) ++ ((48 + n % 10) ∷ []) = decimal_step n (omega arith) (omega arith) in
    rw digits (rw length-append (omega arith))
