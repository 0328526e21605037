use Rattle.std.proofs.Common.{◌≡◌, ◌+◌, ◌/◌, ◌%◌, ◌++◌, ◌∷◌, [], decimal, string_bytes, rules, arith, append_assoc, encode_utf8}
use Rattle.std.proofs.lemmas.Fmt.{decimal_digit}
use Rattle.ariadne_color.proofs.CutShort.{before_last, on_err-intro}
use Rattle.ariadne_color.proofs.Decimals.{two_digits, three_digits}
use Rattle.ariadne_color.proofs.color.escape.push_decimal.Goals as goal
use Rattle.ariadne_color.proofs.color.escape.push_decimal.Goals.{then-number-ge100+in_ok-push+in_ok-push-2}
use Rattle.ariadne_color.proofs.color.escape.push_decimal.Goals.{else-number-ge100+then-number-ge10+in_ok-push-3, else-number-ge100+else-number-ge10}

-- in each branch the digits before the last one stand there
pub returns-clause-ok : goal.returns-clause-ok
returns-clause-ok c =
    let n = c.args.number in
    let digits : string_bytes c.if-number-ge100.out ++ ((48 + n % 10) ∷ []) ≡ string_bytes c.args.out.now
    ++ decimal n = elim c.if-number-ge100.branch [
      | then-number-ge100+in_ok-push+in_ok-push-2 w ↦ rw (three_digits n (omega arith) (omega arith)) (search (rules, append_assoc))
      | else-number-ge100+then-number-ge10+in_ok-push-3 w ↦ rw (two_digits n (omega arith) (omega arith)) (search (rules, append_assoc))
      | else-number-ge100+else-number-ge10 w ↦ search (rules, decimal_digit)
    ] in
    rw (← digits) (search (rules, append_assoc))

-- the first of three digits stands there
pub returns-in_err-push-2-clause-err : goal.returns-in_err-push-2-clause-err
returns-in_err-push-2-clause-err c =
    let n = c.args.number in
    on_err-intro c.from_residual-in_err-push-2.result (record {
      part = (48 + n / 100) ∷ [];
      rest = (48 + n / 10 % 10) ∷ (48 + n % 10) ∷ [];
      begins = three_digits n (omega arith) (omega arith);
      follows = search rules;
    })

-- all digits but the last stand there
pub returns-clause-err : goal.returns-clause-err
returns-clause-err c =
    let n = c.args.number in
    let last : encode_utf8 c.digit-2.result ≡ (48 + n % 10) ∷ [] = search rules in
    elim c.if-number-ge100.branch [
      | then-number-ge100+in_ok-push+in_ok-push-2 w ↦
          before_last c.push-2.result (string_bytes c.args.out.now) ((48 + n / 100) ∷ (48 + n / 10 % 10) ∷ []) (encode_utf8 c.digit-2.result) (decimal n) (string_bytes c.if-number-ge100.out) _ (rw last (three_digits n (omega arith) (omega arith))) (search (rules, append_assoc)) c.push-2.ensures.bytes
      | else-number-ge100+then-number-ge10+in_ok-push-3 w ↦
          before_last c.push-2.result (string_bytes c.args.out.now) ((48 + n / 10) ∷ []) (encode_utf8 c.digit-2.result) (decimal n) (string_bytes c.if-number-ge100.out) _ (rw last (two_digits n (omega arith) (omega arith))) (search (rules, append_assoc)) c.push-2.ensures.bytes
      | else-number-ge100+else-number-ge10 w ↦
          before_last c.push-2.result (string_bytes c.args.out.now) [] (encode_utf8 c.digit-2.result) (decimal n) (string_bytes c.if-number-ge100.out) _ (rw last (search (rules, decimal_digit))) (search (rules, append_assoc)) c.push-2.ensures.bytes
    ]
