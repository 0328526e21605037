-- The numbers of parameters, and what is awaited behind them.
use Rattle.std.proofs.Common.{◌≡◌, ◌∙◌, ℕ, ◌<◌, Bool, true, false, ◌&&◌, List, [], ◌∷◌, length, refl, ap, sym, Option, Some, None, Result, Ok, Err, nat_lt, arith}
use Rattle.std.specs.Char.{is_ascii_digit}
use Rattle.std.specs.List.{list_all}
use Rattle.std.specs.Option.{option_and_then}
use Rattle.std.specs.Result.{result_ok}
use Rattle.std.specs.Str.{all_ascii_digits}
use Rattle.std.specs.Str.Parse.{ParsesUnsigned, digits_value}
use Rattle.std.proofs.lemmas.Bool.{and_from, and_parts, cond-true, cond-false, false_from_ne_true, lt-ltb, ltb-true}
use Rattle.std.proofs.lemmas.Iterator.{YieldsList}
use Rattle.std.proofs.lemmas.Str.Parse.{IsNumeralModel, numerals_by_value, parse_digits, tells_all_ascii_digits}
use Rattle.ariadne_outputs.specs.Sequences.{are_kept, awaited_behind, awaited_behind_parts, is_whole, number_in, parts_of}
use Rattle.ariadne_outputs.specs.declared.sequence.Awaited.{Awaited}
use Rattle.ariadne_outputs.specs.declared.sequence.Awaited.TheVariants.{Attribute, Form, Index, Red, Green, Blue}

-- ---- one number

own : IsNumeralModel (λ ds. all_ascii_digits ds ≡ true) (digits_value 10)
own = numerals_by_value (λ ds. all_ascii_digits ds ≡ true) tells_all_ascii_digits

-- digits in std's words
digits_same : (part : List ℕ) → list_all is_ascii_digit part ≡ all_ascii_digits part
digits_same [] = refl
digits_same (c ∷ part) = ap (λ b. is_ascii_digit c && b) (digits_same part)

-- what is parsed of digits is their number
pub number_is : {E : Type 0} (part : List ℕ) (r : Result ℕ E) → 0 < length part → list_all is_ascii_digit part ≡ true
    → ParsesUnsigned 8 10 part r → result_ok r ≡ number_in part
number_is {E} part (Ok n) some digits parsed =
    let one = parse_digits own {E = E} 8 part (Ok n) parsed (sym (digits_same part) ∙ digits) in
    let fits : nat_lt (digits_value 10 part) 256 ≡ true = lt-ltb (digits_value 10 part) 256 (omega (arith, one.0.1)) in
    ap (λ k. Some k) one.1 ∙ sym (cond-true (list_all is_ascii_digit part && nat_lt (digits_value 10 part) 256) _ _
    (and_from (list_all is_ascii_digit part) (nat_lt (digits_value 10 part) 256) digits fits))
number_is {E} part (Err e) some digits parsed =
    let none = parse_digits own {E = E} 8 part (Err e) parsed (sym (digits_same part) ∙ digits) in
    sym (cond-false (list_all is_ascii_digit part && nat_lt (digits_value 10 part) 256) _ _
    (false_from_ne_true _ (λ t.
    let both = and_parts (list_all is_ascii_digit part) (nat_lt (digits_value 10 part) 256) t in
    none (some, omega (arith, ltb-true (digits_value 10 part) 256 both.1)))))

-- ---- all of them

-- what is awaited behind the parts that are left is what is behind all
pub record AreLeft {S A : Type 0} (steps : S → Option A → S → Type 0) (text : A → List ℕ) (it : S) (parameters : List ℕ)
    (awaited : Awaited) : Type 0 where
  pub parts : List (List ℕ)
  pub left : YieldsList steps text it parts
  pub same : awaited_behind_parts awaited parts ≡ awaited_behind_parts Attribute (parts_of parameters)

-- at first all are
pub left_all : {S A : Type 0} (steps : S → Option A → S → Type 0) (text : A → List ℕ) (it : S) (parameters : List ℕ)
    → YieldsList steps text it (parts_of parameters) → AreLeft steps text it parameters Attribute
left_all steps text it parameters left = record { parts = parts_of parameters; left = left; same = refl }

-- a part that comes is the first that is left
record IsNext {S A : Type 0} (steps : S → Option A → S → Type 0) (text : A → List ℕ) (part : A) (next : S) (parameters : List ℕ)
    (awaited : Awaited) : Type 0 where
  parts : List (List ℕ)
  left : YieldsList steps text next parts
  same : option_and_then (λ n. awaited_behind_parts n parts) (option_and_then (awaited_behind awaited) (number_in (text part)))
      ≡ awaited_behind_parts Attribute (parts_of parameters)

next_of : {S A : Type 0} (steps : S → Option A → S → Type 0) (text : A → List ℕ) (it next : S) (part : A) (parameters : List ℕ)
    (awaited : Awaited) (parts : List (List ℕ)) → YieldsList steps text it parts
    → awaited_behind_parts awaited parts ≡ awaited_behind_parts Attribute (parts_of parameters)
    → steps it (Some part) next → IsNext steps text part next parameters awaited
next_of steps text it next part parameters awaited [] left same step = absurd (left.runs part next step)
next_of steps text it next part parameters awaited (p ∷ parts) left same step =
    let first = left.runs.1 part next step in
    record {
      parts = parts;
      left = record { runs = first.1 };
      same = ap (λ t. option_and_then (λ n. awaited_behind_parts n parts) (option_and_then (awaited_behind awaited) (number_in t))) first.0
          ∙ same;
    }

module _ {S A : Type 0} (steps : S → Option A → S → Type 0) (text : A → List ℕ) (it next : S) (part : A)
    (parameters : List ℕ) (awaited : Awaited) (so_far : AreLeft steps text it parameters awaited)
    (step : steps it (Some part) next) where
  pub left_next : (behind : Awaited) → option_and_then (awaited_behind awaited) (number_in (text part)) ≡ Some behind
      → AreLeft steps text next parameters behind
  left_next behind is =
      let one = next_of steps text it next part parameters awaited so_far.parts so_far.left so_far.same step in
      record {
        parts = one.parts;
        left = one.left;
        same = ap (option_and_then (λ n. awaited_behind_parts n one.parts)) (sym is) ∙ one.same;
      }

  -- one that isn't kept
  pub not_kept : option_and_then (awaited_behind awaited) (number_in (text part)) ≡ None → are_kept parameters ≡ false
  unfolding are_kept
  not_kept is =
      let one = next_of steps text it next part parameters awaited so_far.parts so_far.left so_far.same step in
      ap is_whole (sym one.same ∙ ap (option_and_then (λ n. awaited_behind_parts n one.parts)) is)

-- all were kept, at the end
none_left : {S A : Type 0} (steps : S → Option A → S → Type 0) (text : A → List ℕ) (it next : S) (parameters : List ℕ)
    (awaited : Awaited) (parts : List (List ℕ)) → YieldsList steps text it parts
    → awaited_behind_parts awaited parts ≡ awaited_behind_parts Attribute (parts_of parameters)
    → steps it None next → are_kept parameters ≡ is_whole (Some awaited)
unfolding are_kept
none_left steps text it next parameters awaited [] left same step = ap is_whole (sym same)
none_left steps text it next parameters awaited (p ∷ parts) left same step = absurd (left.runs.0 next step)

pub kept_end : {S A : Type 0} (steps : S → Option A → S → Type 0) (text : A → List ℕ) (it next : S) (parameters : List ℕ)
    (awaited : Awaited) → AreLeft steps text it parameters awaited → steps it None next
    → are_kept parameters ≡ is_whole (Some awaited)
kept_end steps text it next parameters awaited left step =
    none_left steps text it next parameters awaited left.parts left.left left.same step

-- a colour is whole where an attribute is awaited
pub whole_is : (awaited : Awaited) → (b : Bool) → (b ≡ true → awaited ≡ Attribute) → (awaited ≡ Attribute → b ≡ true)
    → b ≡ is_whole (Some awaited)
whole_is Attribute b to from = from refl
whole_is Form b to from = false_from_ne_true b (λ t. let e : Form ≡ Attribute = to t in cc)
whole_is Index b to from = false_from_ne_true b (λ t. let e : Index ≡ Attribute = to t in cc)
whole_is Red b to from = false_from_ne_true b (λ t. let e : Red ≡ Attribute = to t in cc)
whole_is Green b to from = false_from_ne_true b (λ t. let e : Green ≡ Attribute = to t in cc)
whole_is Blue b to from = false_from_ne_true b (λ t. let e : Blue ≡ Attribute = to t in cc)
