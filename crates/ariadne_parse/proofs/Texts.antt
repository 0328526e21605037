-- The parts of lines that tell something.
use Rattle.std.proofs.Common.{◌≡◌, ◌∙◌, sym, ap, subst, refl, arith, ne_eqb, eq-eqb, ltb-true, lt-ltb, get_or, inl, inr, Bor}
use borrow.Author.Tests.{eqb-false, eqb-true}
use Rattle.std.proofs.Math.Dec.{eqb}
use Rattle.std.proofs.Math.Seq.{drop-append-add, get_or-append_seam}
use Rattle.std.proofs.Math.Nat.{sub-zero}
use Rattle.std.proofs.Math.Seq.{take-length}
use Rattle.std.proofs.lemmas.Bool.{and_parts, cases_Bool, le-ltb, ltb-false}
use Rattle.std.proofs.lemmas.Bool.Decides.{nat_tests}
use Rattle.std.proofs.lemmas.List.{drop-drop, get_or-drop, length-append, length-drop, reverse-append, reverse-reverse}
use Rattle.std.proofs.lemmas.List.Folds.{length-prefix_len}
use Rattle.std.proofs.lemmas.List.Sums.{prefix_len-le-length, prefix_len_passes, take_while-cons}
use Rattle.std.proofs.lemmas.Str.{IsCharBoundary-after_ascii, IsCharBoundary-start, len_utf8_ascii}
use Rattle.std.proofs.lemmas.Str.Parse.{numerals_by_value, parse_digits, tells_all_ascii_digits, IsNumeralModel}
use Rattle.std.proofs.lemmas.Str.Pattern.{drop_at_char, ends_text, split_once_first, split_parts, starts_text, IsSplitOnceResult, NoCharPasses-char}
use Rattle.std.specs.Prelude.{ℕ, zero, suc, ◌+◌, ◌-◌, ◌^◌, ◌<◌, ◌≢◌, Bool, true, false, nat_lt, ◌&&◌}
use Rattle.std.specs.Prelude.{List, [], ◌∷◌, ◌++◌, length, take, drop, reverse}
use Rattle.std.specs.Prelude.{Option, Some, None, MatchOption, Result, Ok, Err, cond, not, option_map}
use Rattle.std.specs.Char.{is_ascii_digit}
use Rattle.std.specs.Cmp.Derive.{both_true}
use Rattle.std.specs.List.{after_first, before_first, cons_option, ends_with, filter_map, position_or_len, prefix_len, slice_range, starts_with, take_while}
use Rattle.std.specs.Path.{rfind_below, rsplit_once}
use Rattle.std.specs.Result.{result_ok}
use Rattle.std.specs.Str.{all_ascii_digits, IsCharBoundary, IsUtf8}
use Rattle.std.specs.Str.Parse.{digits_value, ParsesUnsigned}
use Rattle.std.specs.Str.Pattern.{FindsTextPrefix, FindsTextSuffix, RFindsChar, SplitsAroundMatch, StripsPrefix, StripsSuffix}
use Rattle.ariadne_parse.specs.Heads.{colons_from, first, read_at}
use Rattle.ariadne_parse.specs.Sgr.{is_parameter}
use Rattle.ariadne_parse.specs.TextPieces.{behind, behind_text, digits_in, in_front_of, in_front_of_text, number_in, split_once}
use Rattle.ariadne_parse.specs.ParsedLines.{IsCutAtColon}

-- ---- slices

-- those from the start
pub front_is : (text : List ℕ) (n : ℕ) → slice_range text 0 n ≡ take n text
front_is text n = ap (λ k. take k text) (sub-zero n)

-- those to the end
pub back_is : (text : List ℕ) (n : ℕ) → slice_range text n (length text) ≡ drop n text
back_is text n = ap (λ k. take k (drop n text)) (sym (length-drop n text)) ∙ take-length (drop n text)

-- ---- characters

behind_at : (mark : ℕ) (rest : List ℕ) → behind mark (mark ∷ rest) ≡ Some rest
behind_at mark rest = rw (eq-eqb mark mark refl) refl

behind_not : (mark : ℕ) (text : List ℕ) → ((rest : List ℕ) → text ≢ mark ∷ rest) → None ≡ behind mark text
behind_not mark [] h = refl
behind_not mark (c ∷ text) h = rw (ne_eqb c mark (λ e. h text (ap (λ x. x ∷ text) e))) refl

-- `strip_prefix` at a character
pub behind_is : (mark : ℕ) (text : List ℕ) (r : Option (Bor (List ℕ)))
    → MatchOption r ((rest : List ℕ) → text ≢ mark ∷ rest) (λ x. text ≡ mark ∷ x.now)
    → option_map (λ (x : Bor (List ℕ)). x.now) r ≡ behind mark text
behind_is mark text None h = behind_not mark text h
behind_is mark text (Some x) h = sym (ap (behind mark) h ∙ behind_at mark x.now)

-- `strip_suffix` at a character
pub in_front_is : (mark : ℕ) (text : List ℕ) (r : Option (Bor (List ℕ)))
    → MatchOption r ((front : List ℕ) → text ≢ front ++ mark ∷ []) (λ x. text ≡ x.now ++ mark ∷ [])
    → option_map (λ (x : Bor (List ℕ)). x.now) r ≡ in_front_of mark text
in_front_is mark text None h =
    ap (λ (o : Option (List ℕ)). option_map reverse o)
    (behind_not mark (reverse text)
    (λ rest e. h (reverse rest) (sym (reverse-reverse text) ∙ ap reverse e ∙ reverse-append (mark ∷ []) rest)))
in_front_is mark text (Some x) h =
    let e : reverse text ≡ mark ∷ reverse x.now = ap reverse h ∙ reverse-append x.now (mark ∷ []) in
    sym (ap (λ (o : Option (List ℕ)). option_map reverse o) (ap (behind mark) e ∙ behind_at mark (reverse x.now))
    ∙ ap (λ (xs : List ℕ). Some xs) (reverse-reverse x.now))

-- ---- the last character of a kind

rfind_none : (c : ℕ) (bs : List ℕ) (n : ℕ) → ((i : ℕ) → i < n → get_or bs i 0 ≢ c) → rfind_below c bs n ≡ None
rfind_none c bs zero h = refl
rfind_none c bs (suc n) h = rw (ne_eqb (get_or bs n 0) c (h n (omega arith))) (rfind_none c bs n (λ i l. h i (omega arith)))

rfind_some : (c : ℕ) (bs : List ℕ) (n i : ℕ) → i < n → get_or bs i 0 ≡ c
    → ((k : ℕ) → i < k → k < n → get_or bs k 0 ≢ c) → rfind_below c bs n ≡ Some i
rfind_some c bs zero i l at above = absurd (omega arith)
rfind_some c bs (suc n) i l at above = elim (cases_Bool (eqb i n)) [
  | inl same ↦
      let e : i ≡ n = eqb-true i n same in
      rw (eq-eqb (get_or bs n 0) c (ap (λ k. get_or bs k 0) (sym e) ∙ at)) (ap (λ (k : ℕ). Some k) (sym e))
  | inr other ↦
      let apart : i ≢ n = eqb-false i n other in
      let less : i < n = omega arith in
      rw (ne_eqb (get_or bs n 0) c (above n less (omega arith))) (rfind_some c bs n i less at (λ k a b. above k a (omega arith)))
]

-- `rsplit_once` at a character
pub last_is : (c : ℕ) (bs : List ℕ) (r : Option (Bor (List ℕ) × Bor (List ℕ)))
    → MatchOption r (RFindsChar c bs None) (λ x. SplitsAroundMatch (RFindsChar c) bs x.0.now x.1.now) → c < 128
    → option_map (λ (x : Bor (List ℕ) × Bor (List ℕ)). (x.0.now, x.1.now)) r ≡ rsplit_once c bs
unfolding rsplit_once
last_is c bs None h low =
    ap (λ (o : Option ℕ). option_map (λ i. (take i bs, drop (i + 1) bs)) o)
    (sym (rfind_none c bs (length bs) (λ i. NoCharPasses-char c bs i h low)))
last_is c bs (Some x) h low =
    let at = h.2.1 in
    let past : h.1 ≡ h.0 + 1 = omega (arith, at.ends, len_utf8_ascii c low) in
    let tail = drop_at_char c bs h.0 h.1 at low in
    let within : h.0 < length bs = omega (arith, ap length tail, length-drop h.0 bs) in
    let above : (k : ℕ) → h.0 < k → k < length bs → get_or bs k 0 ≢ c =
    λ k a l e.
    let back : h.1 + (k - h.1) ≡ k = omega arith in
    NoCharPasses-char c (drop h.1 bs) (k - h.1) h.2.0 low (omega (arith, length-drop h.1 bs))
    (get_or-drop h.1 bs (k - h.1) 0 ∙ ap (λ n. get_or bs n 0) back ∙ e) in
    let found = rfind_some c bs (length bs) h.0 within (at.byte low) above in
    let front : x.0.now ≡ take h.0 bs = h.3 in
    let rest : x.1.now ≡ drop (h.0 + 1) bs = h.4 ∙ ap (λ n. drop n bs) past in
    (λ k. Some (front k, rest k)) ∙ ap (λ (o : Option ℕ). option_map (λ i. (take i bs, drop (i + 1) bs)) o) (sym found)

-- ---- a text in front

pub strips_front : (n s x : List ℕ) → StripsPrefix (FindsTextPrefix n) s x
    → (starts_with eqb s n ≡ true) × (x ≡ drop (length n) s)
strips_front n s x h = (
  sym (starts_text true n s (h.0, h.1, subst (IsCharBoundary s) (sym h.1.0) h.1.2)),
  h.2 ∙ ap (λ k. drop k s) h.1.0,
)

pub strips_none : (n s : List ℕ) → FindsTextPrefix n s None → starts_with eqb s n ≡ false
strips_none n s h = sym (starts_text false n s h)

-- `strip_prefix` at words
pub behind_text_is : (words text : List ℕ) (r : Option (Bor (List ℕ)))
    → MatchOption r (FindsTextPrefix words text None) (λ x. StripsPrefix (FindsTextPrefix words) text x.now)
    → option_map (λ (x : Bor (List ℕ)). x.now) r ≡ behind_text words text
unfolding behind_text
behind_text_is words text None h = rw (strips_none words text h) refl
behind_text_is words text (Some x) h =
    let both = strips_front words text x.now h in
    rw both.0 (ap (λ (xs : List ℕ). Some xs) both.1)

-- `strip_suffix` at words
pub in_front_text_is : (words text : List ℕ) (r : Option (Bor (List ℕ)))
    → MatchOption r (FindsTextSuffix words text None) (λ x. StripsSuffix (FindsTextSuffix words) text x.now)
    → option_map (λ (x : Bor (List ℕ)). x.now) r ≡ in_front_of_text words text
unfolding in_front_of_text
in_front_text_is words text None h = rw (sym (ends_text false words text h)) refl
in_front_text_is words text (Some x) h =
    let n : h.0 ≡ length words = h.1.0 in
    let on : true ≡ ends_with eqb text words =
    ends_text true words text
    (h.0, h.1, omega (arith, h.3), subst (λ k. IsCharBoundary text (length text - k)) (sym n) h.1.2) in
    rw (sym on) (ap (λ (xs : List ℕ). Some xs) (h.2 ∙ ap (λ k. take (length text - k) text) n))

-- ---- the first character of a kind

-- `split_once` at a character
pub split_is : (mark : ℕ) (text : List ℕ) (r : Option (Bor (List ℕ) × Bor (List ℕ)))
    → MatchOption r (position_or_len (λ b. eqb b mark) text ≡ length text)
    (λ x. (position_or_len (λ b. eqb b mark) text < length text) × (x.0.now ≡ before_first (λ b. eqb b mark) text)
    × (x.1.now ≡ after_first (λ b. eqb b mark) text))
    → option_map (λ (x : Bor (List ℕ) × Bor (List ℕ)). (x.0.now, x.1.now)) r ≡ split_once mark text
unfolding split_once
split_is mark text None h = rw (le-ltb (position_or_len (λ b. eqb b mark) text) (length text) (omega (arith, h))) refl
split_is mark text (Some x) h =
    rw (lt-ltb (position_or_len (λ b. eqb b mark) text) (length text) h.0) (λ k. Some (h.1 k, h.2 k))

-- what stands in front of it, and behind it
pub split_parts_are : (mark : ℕ) (text front rest : List ℕ) → Some (front, rest) ≡ split_once mark text
    → (position_or_len (λ b. eqb b mark) text < length text) × (front ≡ before_first (λ b. eqb b mark) text)
    × (rest ≡ after_first (λ b. eqb b mark) text)
unfolding split_once
split_parts_are mark text front rest e = elim (cases_Bool (nat_lt (position_or_len (λ b. eqb b mark) text) (length text))) [
  | inl on ↦
      let found = rw on at e in
      let pair : (front, rest) ≡ (before_first (λ b. eqb b mark) text, after_first (λ b. eqb b mark) text) = cc found in
      (ltb-true _ _ on, ap (λ (p : List ℕ × List ℕ). p.0) pair, ap (λ (p : List ℕ × List ℕ). p.1) pair)
  | inr off ↦ let none = rw off at e in absurd (cc none)
]

-- there is none
pub split_none : (mark : ℕ) (text : List ℕ) → None ≡ split_once mark text
    → position_or_len (λ b. eqb b mark) text ≡ length text
unfolding split_once
split_none mark text e = elim (cases_Bool (nat_lt (position_or_len (λ b. eqb b mark) text) (length text))) [
  | inl on ↦ let some = rw on at e in absurd (cc some)
  | inr off ↦ omega (arith, ltb-false _ _ off, prefix_len-le-length (λ b. not (eqb b mark)) text)
]

-- ---- colons

-- the next one
pub next_colon : (text : List ℕ) (at n m : ℕ) → position_or_len (λ b. eqb b 58) text ≡ n → n < length text → m ≡ at + n
    → colons_from at text ≡ m ∷ colons_from (m + 1) (drop (n + 1) text)
next_colon [] at n m e l s = absurd (omega arith)
next_colon (c ∷ text) at n m e l s = elim (cases_Bool (eqb c 58)) [
  | inl is ↦
      let here = rw is at e in
      let z : n ≡ 0 = omega (arith, here) in
      let q : m ≡ at = omega arith in
      rw (is, q, z) refl
  | inr other ↦
      let more = rw other at e in
      let k : ℕ = position_or_len (λ b. eqb b 58) text in
      let z : n + 1 ≡ suc (k + 1) = omega (arith, more) in
      rw (other, z) (next_colon text (at + 1) k m refl (omega (arith, more)) (omega (arith, more)))
]

-- there is none
pub no_colon : (text : List ℕ) (at : ℕ) → position_or_len (λ b. eqb b 58) text ≡ length text → colons_from at text ≡ []
no_colon [] at e = refl
no_colon (c ∷ text) at e = elim (cases_Bool (eqb c 58)) [
  | inl is ↦ let here = rw is at e in absurd (omega (arith, here))
  | inr other ↦ let more = rw other at e in rw other (no_colon text (at + 1) (omega (arith, more)))
]

-- the span of one that parts the rest of a line
pub record IsSeam (line rest : List ℕ) (at : ℕ) : Type 0 where
  pub within : at < length line
  pub colon : get_or line at 0 ≡ 58
  pub behind : rest ≡ drop (at + 1) line

pub seam : (line part front rest : List ℕ) (from at : ℕ) → part ≡ drop from line → part ≡ front ++ 58 ∷ rest
    → at ≡ from + length front → IsSeam line rest at
seam line part front rest from at e1 e2 e3 =
    let two : drop from line ≡ front ++ 58 ∷ rest = sym e1 ∙ e2 in
    let long : length (drop from line) ≡ length front + suc (length rest) = ap length two ∙ length-append front (58 ∷ rest) in
    let next : at + 1 ≡ from + (length front + 1) = omega arith in record {
      within = omega (arith, length-drop from line);
      colon = ap (λ n. get_or line n 0) e3 ∙ sym (get_or-drop from line (length front) 0) ∙ ap (λ xs. get_or xs (length front) 0) two
          ∙ get_or-append_seam front 58 rest 0;
      behind = sym (ap (λ n. drop n line) next ∙ sym (drop-drop (length front + 1) from line) ∙ ap (drop (length front + 1)) two
          ∙ drop-append-add front (58 ∷ rest) 1);
    }

-- a line is cut at the next of its colons
pub cut_is : (line part : List ℕ) (x : Bor (List ℕ) × Bor (List ℕ)) (from : ℕ)
    → part ≡ slice_range line from (length line) → IsSplitOnceResult 58 part (Some x)
    → IsSeam line x.1.now (from + length x.0.now)
    × (colons_from from (drop from line)
    ≡ (from + length x.0.now) ∷ colons_from (from + length x.0.now + 1) (drop (from + length x.0.now + 1) line))
cut_is line part x from e h =
    let p : part ≡ drop from line = e ∙ back_is line from in
    let parts = split_parts 58 part (Some x) h (omega arith) in
    let first_at = split_once_first 58 part (Some x) h (omega arith) in
    let n : ℕ = position_or_len (λ b. eqb b 58) part in
    let long : length x.0.now ≡ n = ap length first_at.1 ∙ length-prefix_len (λ b. not (eqb b 58)) part in
    let at : ℕ = from + length x.0.now in
    let cut : IsSeam line x.1.now at = seam line part x.0.now x.1.now from at p parts.0 refl in
    let next = next_colon part from n at refl first_at.0 (omega (arith, long)) in
    let behind : drop (n + 1) part ≡ drop (at + 1) line = sym first_at.2 ∙ cut.behind in (
      cut,
      ap (colons_from from) (sym p) ∙ next ∙ ap (λ (xs : List ℕ). at ∷ colons_from (at + 1) xs) behind,
    )

-- what is read of a line is what is read at the next colon, or at those behind it
step : {H : Type 0} (reads : List ℕ → List ℕ → Option H) (line front rest : List ℕ) (from next turn : ℕ) (all : Option H)
    (cut : IsCutAtColon line from front rest next) → turn < 8
    → all ≡ first (filter_map (read_at reads line) (take (8 - turn) (colons_from from (drop from line))))
    → all ≡ first (cons_option (reads front rest)
    (filter_map (read_at reads line) (take (8 - (turn + 1)) (colons_from next (drop next line)))))
step {H} reads line front rest from next turn all cut l same =
    let k : ℕ = 8 - (turn + 1) in
    let more : 8 - turn ≡ suc k = omega arith in
    let here : reads front rest ≡ read_at reads line cut.at = (λ i. reads (cut.before i) (cut.behind i)) in
    same ∙ ap (λ cs. first (filter_map (read_at reads line) (take (8 - turn) cs))) cut.is_next
    ∙ ap (λ m. first (filter_map (read_at reads line) (take m (cut.at ∷ colons_from (cut.at + 1) (drop (cut.at + 1) line))))) more
    ∙ ap (λ (o : Option H). first (cons_option o (filter_map (read_at reads line) (take k (colons_from (cut.at + 1) (drop (cut.at + 1) line)))))) (sym here)
    ∙ ap (λ m. first (cons_option (reads front rest) (filter_map (read_at reads line) (take k (colons_from m (drop m line)))))) (sym cut.goes_on)

-- something is read there
pub read_there : {H : Type 0} (reads : List ℕ → List ℕ → Option H) (line front rest : List ℕ) (from next turn : ℕ) (all : Option H) (one : H)
    → IsCutAtColon line from front rest next → turn < 8
    → all ≡ first (filter_map (read_at reads line) (take (8 - turn) (colons_from from (drop from line))))
    → Some one ≡ reads front rest → Some one ≡ all
read_there {H} reads line front rest from next turn all one cut l same e =
    sym (step reads line front rest from next turn all cut l same
    ∙ ap (λ (o : Option H). first (cons_option o (filter_map (read_at reads line) (take (8 - (turn + 1)) (colons_from next (drop next line)))))) (sym e))

-- nothing is read there
pub read_later : {H : Type 0} (reads : List ℕ → List ℕ → Option H) (line front rest : List ℕ) (from next turn : ℕ) (all : Option H)
    → IsCutAtColon line from front rest next → turn < 8
    → all ≡ first (filter_map (read_at reads line) (take (8 - turn) (colons_from from (drop from line))))
    → None ≡ reads front rest
    → all ≡ first (filter_map (read_at reads line) (take (8 - (turn + 1)) (colons_from next (drop next line))))
read_later {H} reads line front rest from next turn all cut l same e =
    step reads line front rest from next turn all cut l same
    ∙ ap (λ (o : Option H). first (cons_option o (filter_map (read_at reads line) (take (8 - (turn + 1)) (colons_from next (drop next line)))))) (sym e)

-- ---- runs of characters of ASCII

-- a text may be cut behind characters that are ASCII
pub run_boundary : (test : ℕ → Bool) → ((c : ℕ) → test c ≡ true → c < 128) → (text : List ℕ) (end : ℕ)
    → end ≡ prefix_len test text → IsUtf8 text → IsCharBoundary text end
run_boundary test low text zero e u = IsCharBoundary-start text u
run_boundary test low text (suc m) e u =
    let more : m + 1 ≡ suc m = omega arith in
    let one : test (get_or text m 0) ≡ true = prefix_len_passes test text m 0 (omega (arith, e)) in
    subst (IsCharBoundary text) more
    (IsCharBoundary-after_ascii text m u (omega (arith, e, prefix_len-le-length test text)) (low _ one))

pub blank_small : (c : ℕ) → eqb c 32 ≡ true → c < 128
blank_small c e = omega (arith, eqb-true c 32 e)

pub parameter_small : (c : ℕ) → is_parameter c ≡ true → c < 128
parameter_small c e = grind (arith, nat_tests)

-- ---- numbers

digits_by : (c : ℕ) (text : List ℕ) (b : Bool) → is_ascii_digit c ≡ b → all_ascii_digits (take_while is_ascii_digit text) ≡ true
    → all_ascii_digits (cond b (c ∷ take_while is_ascii_digit text) []) ≡ true
digits_by c text true e more = both_true e more
digits_by c text false e more = refl

pub digits_all : (text : List ℕ) → all_ascii_digits (take_while is_ascii_digit text) ≡ true
digits_all [] = refl
digits_all (c ∷ text) = ap all_ascii_digits (take_while-cons is_ascii_digit c text) ∙ digits_by c text (is_ascii_digit c) refl (digits_all text)

digit_small : (c : ℕ) → is_ascii_digit c ≡ true → c < 128
digit_small c e = grind arith

-- digits may be cut off
pub digits_boundary : (text : List ℕ) (end : ℕ) → end ≡ digits_in text → IsUtf8 text → IsCharBoundary text end
digits_boundary text end e u = run_boundary is_ascii_digit digit_small text end e u

own : IsNumeralModel (λ ds. all_ascii_digits ds ≡ true) (digits_value 10)
own = numerals_by_value (λ ds. all_ascii_digits ds ≡ true) tells_all_ascii_digits

-- what is parsed is the digits
number_parts : (text number : List ℕ) (end : ℕ) → end ≡ digits_in text
    → number ≡ slice_range text 0 end → (number ≡ take (digits_in text) text) × (length number ≡ digits_in text)
    × (all_ascii_digits number ≡ true)
number_parts text number end e1 e2 =
    let is : number ≡ take (digits_in text) text = e2 ∙ front_is text end ∙ ap (λ k. take k text) e1 in
    (is, ap length is ∙ length-prefix_len is_ascii_digit text, ap all_ascii_digits is ∙ digits_all text)

never_true : (b : Bool) → (b ≡ true → ⊥) → b ≡ false
never_true true h = absurd (h refl)
never_true false h = refl

-- digits that are no number of the machine
pub no_number : {E : Type 0} (text number : List ℕ) (end : ℕ) (r : Result ℕ E) → end ≡ digits_in text
    → number ≡ slice_range text 0 end → ParsesUnsigned 64 10 number r → None ≡ result_ok r → None ≡ number_in text
unfolding number_in
no_number {E} text number end (Ok n) e1 e2 parsed none = absurd (cc)
no_number {E} text number end (Err e) e1 e2 parsed none =
    let parts = number_parts text number end e1 e2 in
    let not_one = parse_digits own {E = E} 64 number (Err e) parsed parts.2 in
    let value : digits_value 10 number ≡ digits_value 10 (take (digits_in text) text) = ap (digits_value 10) parts.0 in
    let off : nat_lt 0 (digits_in text) && nat_lt (digits_value 10 (take (digits_in text) text)) (2 ^ 64) ≡ false =
    never_true _
    (λ t.
    let both = and_parts _ _ t in
    let some : 0 < digits_in text = ltb-true _ _ both.0 in
    let fits : digits_value 10 (take (digits_in text) text) < 2 ^ 64 = ltb-true _ _ both.1 in
    not_one (omega (arith, parts.1, some), subst (λ (n : ℕ). n < 2 ^ 64) (sym value) fits)) in
    rw off refl

-- digits that are one
pub a_number : {E : Type 0} (text number rest : List ℕ) (end n : ℕ) (r : Result ℕ E) → end ≡ digits_in text
    → number ≡ slice_range text 0 end → rest ≡ slice_range text end (length text) → ParsesUnsigned 64 10 number r
    → Some n ≡ result_ok r → Some (n, rest) ≡ number_in text
unfolding number_in
a_number {E} text number rest end n (Err e) e1 e2 e3 parsed some = absurd (cc)
a_number {E} text number rest end n (Ok m) e1 e2 e3 parsed some =
    let parts = number_parts text number end e1 e2 in
    let one = parse_digits own {E = E} 64 number (Ok m) parsed parts.2 in
    let value : digits_value 10 number ≡ digits_value 10 (take (digits_in text) text) = ap (digits_value 10) parts.0 in
    let same : n ≡ m = cc in
    let is : n ≡ digits_value 10 (take (digits_in text) text) = same ∙ one.1 ∙ value in
    let behind : rest ≡ drop (digits_in text) text = e3 ∙ back_is text end ∙ ap (λ k. drop k text) e1 in
    let on : nat_lt 0 (digits_in text) && nat_lt (digits_value 10 (take (digits_in text) text)) (2 ^ 64) ≡ true =
    both_true (lt-ltb 0 (digits_in text) (omega (arith, one.0.0, parts.1)))
    (lt-ltb _ (2 ^ 64) (subst (λ (n : ℕ). n < 2 ^ 64) value one.0.1)) in
    rw on (λ k. Some (is k, behind k))
