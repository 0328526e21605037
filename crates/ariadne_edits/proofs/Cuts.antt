-- What is cut of a text, character by character.
use Rattle.std.proofs.Common.{◌≡◌, ◌∙◌, ap, sym, subst, refl, ℕ, ◌+◌, ◌-◌, ◌<◌, ◌≤◌, ◌&&◌, nat_le, nat_lt, cond, List, [], ◌∷◌, ◌++◌}
use Rattle.std.proofs.Common.{drop, take, get_or, length, append_assoc, append-nil, arith, eq-eqb, inl, inr, length-drop}
use Rattle.std.specs.Prelude.{max, min, encode_utf8, encode_utf8_all}
use Rattle.std.proofs.lemmas.Bool.{le-leb, le-ltb, lt-leb, lt-ltb, ne_eqb}
use Rattle.std.proofs.Math.Bool.{and-false}
use Rattle.std.proofs.lemmas.Bool.Decides.{leb_tells}
use Rattle.std.proofs.lemmas.Str.{encodes-append}
use Rattle.std.proofs.lemmas.List.{at_drop_all, drop_more, take_all, take_more}
use Rattle.ariadne_picture.specs.Columns.{char_columns}
use Rattle.ariadne_picture.specs.declared.switches.CharSet.{CharSet}
use Rattle.ariadne_edits.specs.declared.cut.View.{View}
use Rattle.ariadne_edits.specs.declared.rows.Blanks.{Blanks}
use Rattle.ariadne_edits.specs.Bodies.{body}
use Rattle.ariadne_edits.specs.Views.{columns_in, common_len, cut_behind, cut_in_front, cut_mark, first_fitting, fitted}
use Rattle.ariadne_edits.specs.Views.{front_shown, last_fitting, mark_width, shown_line, usable_width}

-- ---- a test on one character

fits_more : (n c : ℕ) (t : List ℕ) → char_columns c ≤ n → first_fitting n (c ∷ t) ≡ c ∷ first_fitting (n - char_columns c) t
fits_more n c t h = ap (λ b. cond b (c ∷ first_fitting (n - char_columns c) t) []) (le-leb (char_columns c) n h)

fits_none : (n c : ℕ) (t : List ℕ) → n < char_columns c → first_fitting n (c ∷ t) ≡ []
fits_none n c t h = ap (λ b. cond b (c ∷ first_fitting (n - char_columns c) t) []) (lt-leb (char_columns c) n h)

alike : (c d : ℕ) (t u : List ℕ) → c ≡ d → common_len (c ∷ t) (d ∷ u) ≡ 1 + common_len t u
alike c d t u e = ap (λ b. cond b (1 + common_len t u) 0) (eq-eqb c d e)

unlike : (c d : ℕ) (t u : List ℕ) → (c ≡ d → ⊥) → common_len (c ∷ t) (d ∷ u) ≡ 0
unlike c d t u n = ap (λ b. cond b (1 + common_len t u) 0) (ne_eqb c d n)

common_none : (t : List ℕ) → common_len t [] ≡ 0
common_none [] = refl
common_none (c ∷ t) = refl

keeps : (c : ℕ) (t : List ℕ) (n : ℕ) → columns_in (c ∷ t) ≤ n → 0 < char_columns c → last_fitting n (c ∷ t) ≡ c ∷ t
keeps c t n le more =
    ap (λ b. cond (b && nat_lt 0 (char_columns c)) (c ∷ t) (last_fitting n t)) (le-leb (columns_in (c ∷ t)) n le)
    ∙ ap (λ b. cond b (c ∷ t) (last_fitting n t)) (lt-ltb 0 (char_columns c) more)

drops_wide : (c : ℕ) (t : List ℕ) (n : ℕ) → n < columns_in (c ∷ t) → last_fitting n (c ∷ t) ≡ last_fitting n t
drops_wide c t n wide = ap (λ b. cond (b && nat_lt 0 (char_columns c)) (c ∷ t) (last_fitting n t)) (lt-leb (columns_in (c ∷ t)) n wide)

drops_none : (c : ℕ) (t : List ℕ) (n : ℕ) → char_columns c ≤ 0 → last_fitting n (c ∷ t) ≡ last_fitting n t
drops_none c t n none =
    let fits = nat_le (columns_in (c ∷ t)) n in
    ap (λ b. cond (fits && b) (c ∷ t) (last_fitting n t)) (le-ltb 0 (char_columns c) none)
    ∙ ap (λ b. cond b (c ∷ t) (last_fitting n t)) (and-false fits)

-- ---- the next character

pub next_is : (t : List ℕ) (k c : ℕ) → k < length t → c ≡ get_or t k c → drop k t ≡ c ∷ drop (k + 1) t
next_is t k c lt is = drop_more t k c lt ∙ ap (λ x. x ∷ drop (k + 1) t) (sym is)

pub taken_is : (t : List ℕ) (k c : ℕ) → k < length t → c ≡ get_or t k c → take (k + 1) t ≡ take k t ++ c ∷ []
taken_is t k c lt is = take_more t k c lt ∙ ap (λ x. take k t ++ x ∷ []) (sym is)

-- ---- the columns of a text

module _ (t : List ℕ) (k n : ℕ) (so_far : n + columns_in (drop k t) ≡ columns_in t) where
  -- a character more
  pub counted_more : (c m : ℕ) → k < length t → c ≡ get_or t k c → m ≡ n + char_columns c → m + columns_in (drop (k + 1) t) ≡ columns_in t
  counted_more c m lt is e =
      let now : columns_in (drop k t) ≡ char_columns c + columns_in (drop (k + 1) t) = ap columns_in (next_is t k c lt is) in
      omega (arith, now, so_far, e)

  -- and all
  pub counted_all : length t ≤ k → n ≡ columns_in t
  counted_all end =
      let none : columns_in (drop k t) ≡ 0 = at_drop_all columns_in t k end in
      omega (arith, none, so_far)

-- ---- characters that are appended

module _ (t : List ℕ) (k : ℕ) (out whole : List ℕ) (so_far : out ++ encode_utf8_all (drop k t) ≡ whole) where
  -- one more
  pub written_more : (c : ℕ) (behind : List ℕ) → k < length t → c ≡ get_or t k c → behind ≡ out ++ encode_utf8 c → behind ++ encode_utf8_all (drop (k + 1) t) ≡ whole
  written_more c behind lt is pushed =
      let rest = encode_utf8_all (drop (k + 1) t) in
      ap (λ x. x ++ rest) pushed ∙ append_assoc out (encode_utf8 c) rest
      ∙ sym (ap (λ u. out ++ encode_utf8_all u) (next_is t k c lt is)) ∙ so_far

  -- and all
  pub written_all : length t ≤ k → out ≡ whole
  written_all end = sym (append-nil out) ∙ ap (λ x. out ++ x) (sym (at_drop_all encode_utf8_all t k end)) ∙ so_far

-- ---- what two texts have in common

module _ (t u : List ℕ) (k whole : ℕ) (so_far : k + common_len (drop k t) (drop k u) ≡ whole) where
  both_cut : (c d : ℕ) → k < length t → k < length u → c ≡ get_or t k c → d ≡ get_or u k d
      → common_len (drop k t) (drop k u) ≡ common_len (c ∷ drop (k + 1) t) (d ∷ drop (k + 1) u)
  both_cut c d lt lu is is' = ap (λ x. common_len x (drop k u)) (next_is t k c lt is) ∙ ap (common_len (c ∷ drop (k + 1) t)) (next_is u k d lu is')

  -- a character more
  pub common_more : (c d : ℕ) → k < length t → k < length u → c ≡ get_or t k c → d ≡ get_or u k d → c ≡ d
      → k + 1 + common_len (drop (k + 1) t) (drop (k + 1) u) ≡ whole
  common_more c d lt lu is is' e =
      let now : common_len (drop k t) (drop k u) ≡ 1 + common_len (drop (k + 1) t) (drop (k + 1) u) =
      both_cut c d lt lu is is' ∙ alike c d (drop (k + 1) t) (drop (k + 1) u) e in
      omega (arith, now, so_far)

  -- or no more
  pub common_stop : (c d : ℕ) → k < length t → k < length u → c ≡ get_or t k c → d ≡ get_or u k d → (c ≡ d → ⊥) → k ≡ whole
  common_stop c d lt lu is is' n =
      let now : common_len (drop k t) (drop k u) ≡ 0 = both_cut c d lt lu is is' ∙ unlike c d (drop (k + 1) t) (drop (k + 1) u) n in
      omega (arith, now, so_far)

  -- where one ends
  common_end : length t ≤ k → k ≡ whole
  common_end end =
      let now : common_len (drop k t) (drop k u) ≡ 0 = at_drop_all (λ x. common_len x (drop k u)) t k end in
      omega (arith, now, so_far)

  common_other_end : length u ≤ k → k ≡ whole
  common_other_end end =
      let now : common_len (drop k t) (drop k u) ≡ 0 = at_drop_all (common_len (drop k t)) u k end ∙ common_none (drop k t) in
      omega (arith, now, so_far)

  pub common_over : (m : ℕ) → m ≡ min (length t) (length u) → m ≤ k → k ≤ m → m ≡ whole
  common_over m e le ge =
      let same : m ≡ k = omega (arith, le, ge) in
      same ∙ elim (leb_tells (length t) k) [
        | inl h ↦ common_end h.1
        | inr h ↦ let less = h.1 in common_other_end (omega (arith, e, le, less))
      ]

-- ---- the first characters

module _ (t : List ℕ) (k n : ℕ) (whole : List ℕ) (so_far : take k t ++ first_fitting n (drop k t) ≡ whole) where
  -- one more fits
  pub first_more : (c : ℕ) → k < length t → c ≡ get_or t k c → char_columns c ≤ n → take (k + 1) t ++ first_fitting (n - char_columns c) (drop (k + 1) t) ≡ whole
  first_more c lt is h =
      let rest = first_fitting (n - char_columns c) (drop (k + 1) t) in
      ap (λ x. x ++ rest) (taken_is t k c lt is) ∙ append_assoc (take k t) (c ∷ []) rest
      ∙ sym (ap (λ x. take k t ++ x) (ap (first_fitting n) (next_is t k c lt is) ∙ fits_more n c (drop (k + 1) t) h)) ∙ so_far

  -- or no more
  pub first_stop : (c : ℕ) → k < length t → c ≡ get_or t k c → n < char_columns c → take k t ≡ whole
  first_stop c lt is h =
      sym (append-nil (take k t))
      ∙ sym (ap (λ x. take k t ++ x) (ap (first_fitting n) (next_is t k c lt is) ∙ fits_none n c (drop (k + 1) t) h)) ∙ so_far

  pub first_all : length t ≤ k → t ≡ whole
  first_all end =
      sym (take_all k t end) ∙ sym (append-nil (take k t)) ∙ sym (ap (λ x. take k t ++ x) (at_drop_all (first_fitting n) t k end)) ∙ so_far

-- ---- the last characters

module _ (t : List ℕ) (k n c : ℕ) (lt : k < length t) (is : c ≡ get_or t k c) where
  -- they fit
  pub last_found : columns_in (drop k t) ≤ n → 0 < char_columns c → last_fitting n (drop k t) ≡ drop k t
  last_found le more =
      let cut = next_is t k c lt is in
      ap (last_fitting n) cut ∙ keeps c (drop (k + 1) t) n (subst (λ x. columns_in x ≤ n) cut le) more ∙ sym cut

  -- or the first does not belong to them
  pub last_wide : n < columns_in (drop k t) → last_fitting n (drop k t) ≡ last_fitting n (drop (k + 1) t)
  last_wide wide =
      let cut = next_is t k c lt is in
      ap (last_fitting n) cut ∙ drops_wide c (drop (k + 1) t) n (subst (λ x. n < columns_in x) cut wide)

  pub last_none : char_columns c ≤ 0 → last_fitting n (drop k t) ≡ last_fitting n (drop (k + 1) t)
  last_none none = ap (last_fitting n) (next_is t k c lt is) ∙ drops_none c (drop (k + 1) t) n none

  -- what is left of the columns
  pub left_more : (left : ℕ) → left ≡ columns_in (drop k t) → left ≡ char_columns c + columns_in (drop (k + 1) t)
  left_more left e = e ∙ ap columns_in (next_is t k c lt is)

-- ---- a text that fits, and one that doesn't

module _ (set : CharSet) (n : ℕ) (t : List ℕ) where
  pub whole_in_front : columns_in t ≤ n → cut_in_front set n t ≡ t
  unfolding cut_in_front
  whole_in_front h = ap (λ b. cond b t (cut_mark set ++ last_fitting (n - mark_width set) t)) (le-leb (columns_in t) n h)

  pub cut_front_is : n < columns_in t → cut_in_front set n t ≡ cut_mark set ++ last_fitting (n - mark_width set) t
  unfolding cut_in_front
  cut_front_is h = ap (λ b. cond b t (cut_mark set ++ last_fitting (n - mark_width set) t)) (lt-leb (columns_in t) n h)

  pub whole_behind : columns_in t ≤ n → cut_behind set n t ≡ t
  unfolding cut_behind
  whole_behind h = ap (λ b. cond b t (first_fitting (n - mark_width set) t ++ cut_mark set)) (le-leb (columns_in t) n h)

  pub cut_behind_is : n < columns_in t → cut_behind set n t ≡ first_fitting (n - mark_width set) t ++ cut_mark set
  unfolding cut_behind
  cut_behind_is h = ap (λ b. cond b t (first_fitting (n - mark_width set) t ++ cut_mark set)) (lt-leb (columns_in t) n h)

module _ (set : CharSet) (n : ℕ) (text other : List ℕ) where
  abbrev parts : List ℕ
  parts =
      front_shown set n text other
      ++ cut_behind set (n - columns_in (front_shown set n text other)) (drop (common_len text other) text)

  pub fitted_whole : max (columns_in text) (columns_in other) ≤ n → fitted set n text other ≡ text
  unfolding fitted
  fitted_whole h = ap (λ b. cond b text parts) (le-leb (max (columns_in text) (columns_in other)) n h)

  pub fitted_parts : n < max (columns_in text) (columns_in other)
      → fitted set n text other ≡ front_shown set n text other
      ++ cut_behind set (n - columns_in (front_shown set n text other)) (drop (common_len text other) text)
  unfolding fitted
  fitted_parts h = ap (λ b. cond b text parts) (lt-leb (max (columns_in text) (columns_in other)) n h)

module _ (view : View) (blanks : Blanks) (line other : List ℕ) where
  abbrev in_width : List ℕ
  in_width = fitted view.char_set (usable_width view) (body view.tab_width blanks line) (body view.tab_width blanks other)

  pub line_whole : view.width ≡ 0 → shown_line view blanks line other ≡ body view.tab_width blanks line
  unfolding shown_line
  line_whole e = ap (λ b. cond b (body view.tab_width blanks line) in_width) (eq-eqb view.width 0 e)

  pub line_fitted : (view.width ≡ 0 → ⊥)
      → shown_line view blanks line other ≡ fitted view.char_set (usable_width view) (body view.tab_width blanks line) (body view.tab_width blanks other)
  unfolding shown_line
  line_fitted n = ap (λ b. cond b (body view.tab_width blanks line) in_width) (ne_eqb view.width 0 n)

-- one text behind another
pub two_written : (out x y middle : List ℕ) → middle ≡ out ++ encode_utf8_all x → middle ++ encode_utf8_all y ≡ out ++ encode_utf8_all (x ++ y)
two_written out x y middle e =
    ap (λ z. z ++ encode_utf8_all y) e ∙ append_assoc out (encode_utf8_all x) (encode_utf8_all y) ∙ ap (λ z. out ++ z) (sym (encodes-append x y))

-- what is left of a text
pub rest_is : (t : List ℕ) (k : ℕ) → take (length t - k) (drop k t) ≡ drop k t
rest_is t k = take_all (length t - k) (drop k t) (let e = length-drop k t in omega (arith, e))
