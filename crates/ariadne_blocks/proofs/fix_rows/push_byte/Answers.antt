use Rattle.std.proofs.Common.{◌∙◌, ◌-◌, ◌++◌, ◌∷◌, [], ℕ, ap, sym}
use Rattle.ariadne_blocks.specs.FixChanges.{meant, with_digit}
use Rattle.ariadne_blocks.specs.declared.fix_rows.Escape.TheVariants.{Closed, Digit, Digits, Open}
use Rattle.ariadne_blocks.proofs.Escapes.{is_digit, is_itself, is_letter, is_second, is_third, opens, put_in, read}
use Rattle.ariadne_blocks.proofs.fix_rows.push_byte.Goals as goal

-- a backslash opens an escape
pub returns-in-Closed : goal.returns-in-Closed
returns-in-Closed c =
    λ rest. rw c.in-Closed.is
    (read Closed Open c.args.bytes.now.items c.args.byte rest (opens c.args.byte rest c.if-byte-eq92.true))

-- a digit is the first of three
pub returns-in-Open : goal.returns-in-Open
returns-in-Open c =
    λ rest. rw (c.in-Open.is, c.saturating_sub.ensures)
    (read Open (Digit (c.args.byte - 48)) c.args.bytes.now.items c.args.byte rest
    (is_digit c.args.byte rest (sym c.is_first_digit.ensures ∙ c.if-is_first_digit.true)))

-- or the second
pub returns-in-Digit : goal.returns-in-Digit
returns-in-Digit c =
    let value = c.in-Digit.value in
    λ rest. rw (c.in-Digit.is, c.with_digit.ensures)
    (read (Digit value) (Digits (with_digit value c.args.byte)) c.args.bytes.now.items c.args.byte rest
    (is_second value c.args.byte rest))

-- what stands outside of escapes is itself
pub returns-in_ok-push-in-Closed-2 : goal.returns-in_ok-push-in-Closed-2
returns-in_ok-push-in-Closed-2 c =
    λ rest. rw c.in-Closed-2.is
    (put_in Closed c.args.bytes.now.items c.push.new.self.items c.args.byte c.args.byte rest
    c.in_ok-push-in-Closed-2.ensures.items (is_itself c.args.byte rest c.if-byte-eq92.false))

-- a letter means something
pub returns-in_ok-push-in-Open-2 : goal.returns-in_ok-push-in-Open-2
returns-in_ok-push-in-Open-2 c =
    let items = c.args.bytes.now.items in
    λ rest. rw c.in-Open-2.is
    (put_in Open items c.push-in-Open-2.new.self.items (meant c.args.byte) c.args.byte rest
    (c.in_ok-push-in-Open-2.ensures.items ∙ ap (λ (m : ℕ). items ++ m ∷ []) c.meant.ensures)
    (is_letter c.args.byte rest (sym c.is_first_digit.ensures ∙ c.if-is_first_digit.false)))

-- the third digit ends a byte
pub returns-in_ok-push-in-Digits : goal.returns-in_ok-push-in-Digits
returns-in_ok-push-in-Digits c =
    let items = c.args.bytes.now.items in
    let value = c.in-Digits.value in
    λ rest. rw c.in-Digits.is
    (put_in (Digits value) items c.push-in-Digits.new.self.items (with_digit value c.args.byte) c.args.byte rest
    (c.in_ok-push-in-Digits.ensures.items ∙ ap (λ (m : ℕ). items ++ m ∷ []) c.with_digit-in-Digits.ensures)
    (is_third value c.args.byte rest))
