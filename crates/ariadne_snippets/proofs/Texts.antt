-- The pieces of a line of text.
use Rattle.std.proofs.Common.{◌≡◌, ◌∙◌, sym, ap, subst, refl, arith, ne_eqb, eq-eqb, ltb-true, lt-ltb, get_or, Bor}
use borrow.Author.Tests.{eqb-true}
use Rattle.std.proofs.Math.Dec.{eqb}
use Rattle.std.proofs.Math.Nat.{sub-zero}
use Rattle.std.proofs.Math.Seq.{take-length}
use Rattle.std.proofs.lemmas.Bool.{and_parts}
use Rattle.std.proofs.lemmas.Bool.Decides.{nat_tests}
use Rattle.std.proofs.lemmas.List.{length-drop}
use Rattle.std.proofs.lemmas.List.Folds.{length-prefix_len}
use Rattle.std.proofs.lemmas.List.Sums.{prefix_len-le-length, prefix_len_passes, take_while-cons}
use Rattle.std.proofs.lemmas.Str.{IsCharBoundary-after_ascii, IsCharBoundary-start}
use Rattle.std.proofs.lemmas.Str.Parse.{numerals_by_value, parse_digits, tells_all_ascii_digits, IsNumeralModel}
use Rattle.std.proofs.lemmas.Str.Pattern.{starts_text}
use Rattle.std.specs.Prelude.{ℕ, zero, suc, ◌+◌, ◌^◌, ◌<◌, ◌≢◌, Bool, true, false, nat_lt, ◌&&◌, ◌||◌}
use Rattle.std.specs.Prelude.{List, [], ◌∷◌, length, take, drop}
use Rattle.std.specs.Prelude.{Option, Some, None, MatchOption, Result, Ok, Err, cond, option_map}
use Rattle.std.specs.Char.{is_ascii_digit}
use Rattle.std.specs.Cmp.Derive.{both_true}
use Rattle.std.specs.List.{prefix_len, slice_range, starts_with, take_while}
use Rattle.std.specs.Result.{result_ok}
use Rattle.std.specs.Str.{all_ascii_digits, IsCharBoundary, IsUtf8}
use Rattle.std.specs.Str.Parse.{digits_value, ParsesUnsigned}
use Rattle.std.specs.Str.Pattern.{FindsTextPrefix, StripsPrefix}
use Rattle.ariadne_snippets.specs.Rows.{is_gap, is_of_marks}
use Rattle.ariadne_snippets.specs.RowPieces.{behind, behind_text, digits_in, number_in}

-- ---- slices

-- those from the start
pub front_is : (text : List ℕ) (n : ℕ) → slice_range text 0 n ≡ take n text
front_is text n = ap (λ k. take k text) (sub-zero n)

-- those to the end
pub back_is : (text : List ℕ) (n : ℕ) → slice_range text n (length text) ≡ drop n text
back_is text n = ap (λ k. take k (drop n text)) (sym (length-drop n text)) ∙ take-length (drop n text)

-- ---- characters

behind_at : (mark : ℕ) (rest : List ℕ) → behind mark (mark ∷ rest) ≡ Some rest
behind_at mark rest = rw (eq-eqb mark mark refl) refl

behind_not : (mark : ℕ) (text : List ℕ) → ((rest : List ℕ) → text ≢ mark ∷ rest) → None ≡ behind mark text
behind_not mark [] h = refl
behind_not mark (c ∷ text) h = rw (ne_eqb c mark (λ e. h text (ap (λ x. x ∷ text) e))) refl

-- `strip_prefix` at a character
pub behind_is : (mark : ℕ) (text : List ℕ) (r : Option (Bor (List ℕ)))
    → MatchOption r ((rest : List ℕ) → text ≢ mark ∷ rest) (λ x. text ≡ mark ∷ x.now)
    → option_map (λ (x : Bor (List ℕ)). x.now) r ≡ behind mark text
behind_is mark text None h = behind_not mark text h
behind_is mark text (Some x) h = sym (ap (behind mark) h ∙ behind_at mark x.now)

-- ---- a text in front

pub strips_front : (n s x : List ℕ) → StripsPrefix (FindsTextPrefix n) s x
    → (starts_with eqb s n ≡ true) × (x ≡ drop (length n) s)
strips_front n s x h = (
  sym (starts_text true n s (h.0, h.1, subst (IsCharBoundary s) (sym h.1.0) h.1.2)),
  h.2 ∙ ap (λ k. drop k s) h.1.0,
)

pub strips_none : (n s : List ℕ) → FindsTextPrefix n s None → starts_with eqb s n ≡ false
strips_none n s h = sym (starts_text false n s h)

-- `strip_prefix` at words
pub behind_text_is : (words text : List ℕ) (r : Option (Bor (List ℕ)))
    → MatchOption r (FindsTextPrefix words text None) (λ x. StripsPrefix (FindsTextPrefix words) text x.now)
    → option_map (λ (x : Bor (List ℕ)). x.now) r ≡ behind_text words text
behind_text_is words text None h = rw (strips_none words text h) refl
behind_text_is words text (Some x) h =
    let both = strips_front words text x.now h in
    rw both.0 (ap (λ (xs : List ℕ). Some xs) both.1)

-- ---- runs of characters of ASCII

-- a text may be cut behind characters that are ASCII
pub run_boundary : (test : ℕ → Bool) → ((c : ℕ) → test c ≡ true → c < 128) → (text : List ℕ) (end : ℕ)
    → end ≡ prefix_len test text → IsUtf8 text → IsCharBoundary text end
run_boundary test low text zero e u = IsCharBoundary-start text u
run_boundary test low text (suc m) e u =
    let more : m + 1 ≡ suc m = omega arith in
    let one : test (get_or text m 0) ≡ true = prefix_len_passes test text m 0 (omega (arith, e)) in
    subst (IsCharBoundary text) more
    (IsCharBoundary-after_ascii text m u (omega (arith, e, prefix_len-le-length test text)) (low _ one))

pub blank_small : (c : ℕ) → eqb c 32 ≡ true → c < 128
blank_small c e = omega (arith, eqb-true c 32 e)

pub of_marks_small : (c : ℕ) → is_of_marks c || eqb c 95 ≡ true → c < 128
of_marks_small c e = grind (arith, nat_tests)

pub of_bars_small : (c : ℕ) → is_gap c || eqb c 124 ≡ true → c < 128
of_bars_small c e = grind (arith, nat_tests)

-- ---- numbers

digits_by : (c : ℕ) (text : List ℕ) (b : Bool) → is_ascii_digit c ≡ b → all_ascii_digits (take_while is_ascii_digit text) ≡ true
    → all_ascii_digits (cond b (c ∷ take_while is_ascii_digit text) []) ≡ true
digits_by c text true e more = both_true e more
digits_by c text false e more = refl

pub digits_all : (text : List ℕ) → all_ascii_digits (take_while is_ascii_digit text) ≡ true
digits_all [] = refl
digits_all (c ∷ text) = ap all_ascii_digits (take_while-cons is_ascii_digit c text) ∙ digits_by c text (is_ascii_digit c) refl (digits_all text)

digit_small : (c : ℕ) → is_ascii_digit c ≡ true → c < 128
digit_small c e = grind arith

-- digits may be cut off
pub digits_boundary : (text : List ℕ) (end : ℕ) → end ≡ digits_in text → IsUtf8 text → IsCharBoundary text end
digits_boundary text end e u = run_boundary is_ascii_digit digit_small text end e u

own : IsNumeralModel (λ ds. all_ascii_digits ds ≡ true) (digits_value 10)
own = numerals_by_value (λ ds. all_ascii_digits ds ≡ true) tells_all_ascii_digits

-- what is parsed is the digits
number_parts : (text number : List ℕ) (end : ℕ) → end ≡ digits_in text
    → number ≡ slice_range text 0 end → (number ≡ take (digits_in text) text) × (length number ≡ digits_in text)
    × (all_ascii_digits number ≡ true)
number_parts text number end e1 e2 =
    let is : number ≡ take (digits_in text) text = e2 ∙ front_is text end ∙ ap (λ k. take k text) e1 in
    (is, ap length is ∙ length-prefix_len is_ascii_digit text, ap all_ascii_digits is ∙ digits_all text)

never_true : (b : Bool) → (b ≡ true → ⊥) → b ≡ false
never_true true h = absurd (h refl)
never_true false h = refl

-- digits that are no number of the machine
pub no_number : {E : Type 0} (text number : List ℕ) (end : ℕ) (r : Result ℕ E) → end ≡ digits_in text
    → number ≡ slice_range text 0 end → ParsesUnsigned 64 10 number r → None ≡ result_ok r → None ≡ number_in text
unfolding number_in
no_number {E} text number end (Ok n) e1 e2 parsed none = absurd (cc)
no_number {E} text number end (Err e) e1 e2 parsed none =
    let parts = number_parts text number end e1 e2 in
    let not_one = parse_digits own {E = E} 64 number (Err e) parsed parts.2 in
    let value : digits_value 10 number ≡ digits_value 10 (take (digits_in text) text) = ap (digits_value 10) parts.0 in
    let off : nat_lt 0 (digits_in text) && nat_lt (digits_value 10 (take (digits_in text) text)) (2 ^ 64) ≡ false =
    never_true _
    (λ t.
    let both = and_parts _ _ t in
    let some : 0 < digits_in text = ltb-true _ _ both.0 in
    let fits : digits_value 10 (take (digits_in text) text) < 2 ^ 64 = ltb-true _ _ both.1 in
    not_one (omega (arith, parts.1, some), subst (λ (n : ℕ). n < 2 ^ 64) (sym value) fits)) in
    rw off refl

-- digits that are one
pub a_number : {E : Type 0} (text number rest : List ℕ) (end n : ℕ) (r : Result ℕ E) → end ≡ digits_in text
    → number ≡ slice_range text 0 end → rest ≡ slice_range text end (length text) → ParsesUnsigned 64 10 number r
    → Some n ≡ result_ok r → Some (n, rest) ≡ number_in text
unfolding number_in
a_number {E} text number rest end n (Err e) e1 e2 e3 parsed some = absurd (cc)
a_number {E} text number rest end n (Ok m) e1 e2 e3 parsed some =
    let parts = number_parts text number end e1 e2 in
    let one = parse_digits own {E = E} 64 number (Ok m) parsed parts.2 in
    let value : digits_value 10 number ≡ digits_value 10 (take (digits_in text) text) = ap (digits_value 10) parts.0 in
    let same : n ≡ m = cc in
    let is : n ≡ digits_value 10 (take (digits_in text) text) = same ∙ one.1 ∙ value in
    let behind : rest ≡ drop (digits_in text) text = e3 ∙ back_is text end ∙ ap (λ k. drop k text) e1 in
    let on : nat_lt 0 (digits_in text) && nat_lt (digits_value 10 (take (digits_in text) text)) (2 ^ 64) ≡ true =
    both_true (lt-ltb 0 (digits_in text) (omega (arith, one.0.0, parts.1)))
    (lt-ltb _ (2 ^ 64) (subst (λ (n : ℕ). n < 2 ^ 64) value one.0.1)) in
    rw on (λ k. Some (is k, behind k))
