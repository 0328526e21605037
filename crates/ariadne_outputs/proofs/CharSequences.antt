-- The sequence that a text begins with is the same by characters and by bytes, but for what stands
-- behind it.
use Rattle.std.proofs.Common.{◌≡◌, ◌∙◌, inl, inr, ℕ, suc, ◌+◌, ◌<◌, ◌≤◌, Bool, true, false, ◌&&◌, eqb, cond, List, [], ◌∷◌, ◌++◌, refl, ap, sym, subst, take, drop, arith, Some, None, option_map, unwrap_or, lit<}
use Rattle.std.specs.Prelude.{chars, encode_utf8, encode_utf8_all}
use Rattle.std.specs.Char.{is_ascii_digit}
use Rattle.std.specs.List.{list_all, prefix_len}
use Rattle.std.specs.Str.{IsUtf8}
use Rattle.std.proofs.lemmas.Bool.{cases_lt, cond-false, cond-true, ne_eqb}
use Rattle.std.proofs.lemmas.Bool.Decides.{nat_tests}
use Rattle.std.proofs.lemmas.Str.{IsUtf8-nil, IsUtf8-past_char, byte_from_char, chars-nil, chars_past_char, encode_ascii}
use Rattle.std.specs.Prelude.{Option, option_and_then}
use Rattle.ariadne_outputs.specs.Sequences.{Sequence, behind_charset, behind_letter, ended, is_of_parameters, sequence_in}

-- ---- the first character

-- a text begins with a character of ASCII, which is its first byte, or with another
data BeginsWith (b : ℕ) (text : List ℕ) : Type 0 where
  ascii : b < 128 → chars (b ∷ text) ≡ b ∷ chars text → IsUtf8 text → BeginsWith b text
  other : (c : ℕ) (rest : List ℕ) → 128 ≤ c → 128 ≤ b → chars (b ∷ text) ≡ c ∷ rest → BeginsWith b text

high_char : (b c : ℕ) (text rest : List ℕ) → b ∷ text ≡ encode_utf8 c ++ rest → 128 ≤ b → 128 ≤ c
high_char b c text rest cut high =
    elim (cases_lt c 128) [
      | inl low ↦ let same : b ≡ c = byte_from_char (b ∷ text) rest c cut low in omega arith
      | inr it ↦ it
    ]

begins_by : (b c : ℕ) (text rest : List ℕ) → IsUtf8 (b ∷ text) → b ∷ text ≡ encode_utf8 c ++ rest → BeginsWith b text
begins_by b c text rest u cut =
    elim (cases_lt b 128) [
      | inl low ↦
          let own : b ∷ text ≡ encode_utf8 b ++ text = ap (λ t. t ++ text) (sym (encode_ascii b low)) in
          ascii low (chars_past_char (b ∷ text) text b u own) (IsUtf8-past_char (b ∷ text) text b u own)
      | inr high ↦
          other c (chars rest) (high_char b c text rest cut high) high (chars_past_char (b ∷ text) rest c u cut)
    ]

begins_from : (b : ℕ) (text : List ℕ) → IsUtf8 (b ∷ text) → (cs : List ℕ) → encode_utf8_all cs ≡ b ∷ text
    → BeginsWith b text
begins_from b text u [] e = cc
begins_from b text u (c ∷ cs) e = begins_by b c text (encode_utf8_all cs) u (sym e)

begins_with : (b : ℕ) (text : List ℕ) → IsUtf8 (b ∷ text) → BeginsWith b text
begins_with b text u = begins_from b text u u.0 u.1.1

-- ---- parameters

-- what is above ASCII is none of them
not_of_parameters : (c : ℕ) → 128 ≤ c → is_of_parameters c ≡ false
not_of_parameters c high = grind (arith, nat_tests)

pub of_parameters_low : (c : ℕ) → is_of_parameters c ≡ true → c < 128
of_parameters_low c is = grind (arith, nat_tests)

-- as many characters as bytes are parameters, and what stands behind them is text
record HasPrefix (text : List ℕ) : Type 0 where
  count : prefix_len is_of_parameters (chars text) ≡ prefix_len is_of_parameters text
  front : take (prefix_len is_of_parameters text) (chars text) ≡ take (prefix_len is_of_parameters text) text
  back : drop (prefix_len is_of_parameters text) (chars text) ≡ chars (drop (prefix_len is_of_parameters text) text)
  utf8 : IsUtf8 (drop (prefix_len is_of_parameters text) text)

-- the first character is none, where the first byte is none
first_none : (b : ℕ) (text : List ℕ) → BeginsWith b text → is_of_parameters b ≡ false
    → prefix_len is_of_parameters (chars (b ∷ text)) ≡ 0
first_none b text (ascii low e u) none = rw (e, none) refl
first_none b text (other c rest high up e) none = rw (e, not_of_parameters c high) refl

no_prefix : (b : ℕ) (text : List ℕ) → IsUtf8 (b ∷ text) → is_of_parameters b ≡ false → HasPrefix (b ∷ text)
no_prefix b text u none =
    let zero_bytes : prefix_len is_of_parameters (b ∷ text) ≡ 0 = cond-false (is_of_parameters b) _ _ none in
    record {
      count = first_none b text (begins_with b text u) none ∙ sym zero_bytes;
      front = rw zero_bytes refl;
      back = rw zero_bytes refl;
      utf8 = subst (λ n. IsUtf8 (drop n (b ∷ text))) (sym zero_bytes) u;
    }

-- one more is, where the first byte is one
more_prefix : (b : ℕ) (text : List ℕ) → BeginsWith b text → is_of_parameters b ≡ true
    → (IsUtf8 text → HasPrefix text) → HasPrefix (b ∷ text)
more_prefix b text (ascii low e u) is rest =
    let tail = rest u in
    let n = prefix_len is_of_parameters text in
    let bytes : prefix_len is_of_parameters (b ∷ text) ≡ suc n = cond-true (is_of_parameters b) _ _ is ∙ omega arith in
    let codes : prefix_len is_of_parameters (b ∷ chars text) ≡ suc n =
    cond-true (is_of_parameters b) _ _ is ∙ ap (λ k. 1 + k) tail.count ∙ omega arith in
    record {
      count = ap (prefix_len is_of_parameters) e ∙ codes ∙ sym bytes;
      front = rw (bytes, e) (ap (λ t. b ∷ t) tail.front);
      back = rw (bytes, e) tail.back;
      utf8 = subst (λ k. IsUtf8 (drop k (b ∷ text))) (sym bytes) tail.utf8;
    }
more_prefix b text (other c rest high up e) is tail =
    let low : b < 128 = of_parameters_low b is in let never : ⊥ = omega arith in absurd never

prefix_by : (b : ℕ) (text : List ℕ) (one : Bool) → is_of_parameters b ≡ one → IsUtf8 (b ∷ text)
    → (IsUtf8 text → HasPrefix text) → HasPrefix (b ∷ text)
prefix_by b text true is u rest = more_prefix b text (begins_with b text u) is rest
prefix_by b text false is u rest = no_prefix b text u is

prefix_chars : (text : List ℕ) → IsUtf8 text → HasPrefix text
prefix_chars [] u =
    record { count = ap (prefix_len is_of_parameters) chars-nil; front = refl; back = refl; utf8 = IsUtf8-nil }
prefix_chars (b ∷ text) u = prefix_by b text (is_of_parameters b) refl u (prefix_chars text)

-- ---- the sequence

-- what stands behind it, by characters
abbrev pub with_chars : Sequence → Sequence
with_chars s = record s { behind = chars s.behind }

both_ended : (parameters : List ℕ) (b : ℕ) (text : List ℕ) (paint erase : Bool)
    → cond paint (Some (record { parameters = parameters; is_paint = true; behind = chars text }))
    (cond erase (Some (record { parameters = parameters; is_paint = false; behind = chars text })) None)
    ≡ option_map with_chars (cond paint (Some (record { parameters = parameters; is_paint = true; behind = text }))
    (cond erase (Some (record { parameters = parameters; is_paint = false; behind = text })) None))
both_ended parameters b text true erase = refl
both_ended parameters b text false true = refl
both_ended parameters b text false false = refl

-- what ends it is a character of ASCII
ended_first : (parameters : List ℕ) (b : ℕ) (text : List ℕ) → BeginsWith b text
    → ended parameters (chars (b ∷ text)) ≡ option_map with_chars (ended parameters (b ∷ text))
ended_first parameters b text (ascii low e u) =
    rw e (both_ended parameters b text (eqb b 109) (eqb b 75 && list_all is_ascii_digit parameters))
ended_first parameters b text (other c rest high up e) =
    let c1 : eqb c 109 ≡ false = ne_eqb c 109 (λ is. omega arith) in
    let c2 : eqb c 75 ≡ false = ne_eqb c 75 (λ is. omega arith) in
    let b1 : eqb b 109 ≡ false = ne_eqb b 109 (λ is. omega arith) in
    let b2 : eqb b 75 ≡ false = ne_eqb b 75 (λ is. omega arith) in
    rw (e, c1, c2, b1, b2) refl

ended_chars : (parameters text : List ℕ) → IsUtf8 text
    → ended parameters (chars text) ≡ option_map with_chars (ended parameters text)
ended_chars parameters [] u = rw chars-nil refl
ended_chars parameters (b ∷ text) u = ended_first parameters b text (begins_with b text u)

bracket_by : (b : ℕ) (text : List ℕ) (bracket : Bool) → IsUtf8 text
    → cond bracket (ended (take (prefix_len is_of_parameters (chars text)) (chars text))
    (drop (prefix_len is_of_parameters (chars text)) (chars text))) None
    ≡ option_map with_chars (cond bracket (ended (take (prefix_len is_of_parameters text) text)
    (drop (prefix_len is_of_parameters text) text)) None)
bracket_by b text false u = refl
bracket_by b text true u =
    let prefix = prefix_chars text u in
    let n = prefix_len is_of_parameters text in
    rw (prefix.count, prefix.front, prefix.back) (ended_chars (take n text) (drop n text) prefix.utf8)

sequence_first : (b : ℕ) (text : List ℕ) → BeginsWith b text
    → sequence_in (chars (b ∷ text)) ≡ option_map with_chars (sequence_in (b ∷ text))
unfolding sequence_in
sequence_first b text (ascii low e u) = rw e (bracket_by b text (eqb b 91) u)
sequence_first b text (other c rest high up e) =
    let c1 : eqb c 91 ≡ false = ne_eqb c 91 (λ is. omega arith) in
    let b1 : eqb b 91 ≡ false = ne_eqb b 91 (λ is. omega arith) in
    rw (e, c1, b1) refl

pub sequence_chars : (text : List ℕ) → IsUtf8 text
    → sequence_in (chars text) ≡ option_map with_chars (sequence_in text)
unfolding sequence_in
sequence_chars [] u = rw chars-nil refl
sequence_chars (b ∷ text) u = sequence_first b text (begins_with b text u)

-- ---- letters of ASCII

-- what stands behind one is text, and the same by characters
record IsBehindLetter (letter : ℕ) (text : List ℕ) : Type 0 where
  same : behind_letter letter (chars text) ≡ option_map chars (behind_letter letter text)
  utf8 : (rest : List ℕ) → behind_letter letter text ≡ Some rest → IsUtf8 rest

letter_by : (text : List ℕ) (is : Bool) → cond is (Some (chars text)) None ≡ option_map chars (cond is (Some text) None)
letter_by text true = refl
letter_by text false = refl

rest_by : (text rest : List ℕ) (is : Bool) → IsUtf8 text → cond is (Some text) None ≡ Some rest → IsUtf8 rest
rest_by text rest true u e = subst IsUtf8 (ap (λ (o : Option (List ℕ)). unwrap_or o text) e) u
rest_by text rest false u e = cc

letter_first : (letter b : ℕ) (text : List ℕ) → letter < 128 → BeginsWith b text → IsBehindLetter letter (b ∷ text)
letter_first letter b text small (ascii low e u) = record {
  same = rw e (letter_by text (eqb b letter));
  utf8 = λ rest. rest_by text rest (eqb b letter) u;
}
letter_first letter b text small (other c rest high up e) =
    let c1 : eqb c letter ≡ false = ne_eqb c letter (λ is. omega arith) in
    let b1 : eqb b letter ≡ false = ne_eqb b letter (λ is. omega arith) in
    record {
      same = rw (e, c1, b1) refl;
      utf8 = rw b1 (λ (rest : List ℕ) (found : None ≡ Some rest). cc);
    }

letter_chars : (letter : ℕ) (text : List ℕ) → letter < 128 → IsUtf8 text → IsBehindLetter letter text
letter_chars letter [] small u = record { same = rw chars-nil refl; utf8 = λ rest found. cc }
letter_chars letter (b ∷ text) small u = letter_first letter b text small (begins_with b text u)

-- and so is what stands behind two
second_chars : (found : Option (List ℕ)) → ((rest : List ℕ) → found ≡ Some rest → IsUtf8 rest)
    → option_and_then (behind_letter 66) (option_map chars found) ≡ option_map chars (option_and_then (behind_letter 66) found)
second_chars None u = refl
second_chars (Some rest) u = (letter_chars 66 rest (lit< tt) (u rest refl)).same

pub charset_chars : (text : List ℕ) → IsUtf8 text → behind_charset (chars text) ≡ option_map chars (behind_charset text)
charset_chars text u =
    let first = letter_chars 40 text (lit< tt) u in
    ap (option_and_then (behind_letter 66)) first.same ∙ second_chars (behind_letter 40 text) first.utf8
