-- A line that is cut takes no more columns than it may.
use Rattle.std.proofs.Common.{◌≡◌, ◌∙◌, ap, sym, refl, ℕ, suc, ◌+◌, ◌-◌, ◌*◌, ◌/◌, ◌<◌, ◌≤◌, ◌==◌, ◌&&◌, Bool, nat_le, nat_lt, true, false, cond, inl, inr}
use Rattle.std.proofs.Common.{List, [], ◌∷◌, ◌++◌, drop, take, arith, eq-eqb}
use Rattle.std.specs.Prelude.{max}
use Rattle.std.proofs.lemmas.Bool.{cases_Bool, cond_both, eqb-true, le-leb, leb-true, ne_eqb, true≢false}
use Rattle.std.proofs.lemmas.List.{take-append-drop}
use Rattle.ariadne_picture.specs.Columns.{char_columns}
use Rattle.ariadne_picture.specs.declared.switches.CharSet.{CharSet}
use Rattle.ariadne_edits.specs.declared.cut.View.{View}
use Rattle.ariadne_edits.specs.declared.rows.Blanks.{Blanks}
use Rattle.ariadne_edits.specs.Bodies.{body}
use Rattle.ariadne_edits.specs.Views.{columns_in, common_len, cut_behind, cut_in_front, cut_mark}
use Rattle.ariadne_edits.specs.Views.{first_fitting, fitted, front_shown, last_fitting, mark_width, ShowsDifference, shown_line, usable_width}

-- the columns of two texts add up
pub columns_behind : (t u : List ℕ) → columns_in (t ++ u) ≡ columns_in t + columns_in u
columns_behind [] u = omega arith
columns_behind (c ∷ t) u = let more = columns_behind t u in omega (arith, more)

-- the first characters that fit
pub first_fits : (n : ℕ) (t : List ℕ) → columns_in (first_fitting n t) ≤ n
first_fits n [] = omega arith
first_fits n (c ∷ t) =
    cond_both (nat_le (char_columns c) n) (c ∷ first_fitting (n - char_columns c) t) [] (λ xs. columns_in xs ≤ n)
    (λ h. let le = leb-true (char_columns c) n h in let more = first_fits (n - char_columns c) t in omega (arith, le, more)) (λ _. omega arith)

first_true : (a b : Bool) → (a && b) ≡ true → a ≡ true
first_true true b h = refl
first_true false b h = absurd (true≢false (sym h))

-- and the last
pub last_fits : (n : ℕ) (t : List ℕ) → columns_in (last_fitting n t) ≤ n
last_fits n [] = omega arith
last_fits n (c ∷ t) =
    cond_both (nat_le (columns_in (c ∷ t)) n && nat_lt 0 (char_columns c)) (c ∷ t) (last_fitting n t) (λ xs. columns_in xs ≤ n)
    (λ h. leb-true (columns_in (c ∷ t)) n (first_true (nat_le (columns_in (c ∷ t)) n) (nat_lt 0 (char_columns c)) h)) (λ _. last_fits n t)

module _ (set : CharSet) (n : ℕ) where
  -- the mark and the last characters
  pub marked_columns : (t : List ℕ) → columns_in (cut_mark set ++ t) ≡ mark_width set + columns_in t
  marked_columns t = columns_behind (cut_mark set) t

  pub front_fits : (t : List ℕ) → mark_width set ≤ n → columns_in (cut_in_front set n t) ≤ n
  unfolding cut_in_front
  front_fits t room =
      cond_both (nat_le (columns_in t) n) t (cut_mark set ++ last_fitting (n - mark_width set) t) (λ xs. columns_in xs ≤ n) (λ h. leb-true (columns_in t) n h)
      (λ _. let fits = last_fits (n - mark_width set) t in let both = marked_columns (last_fitting (n - mark_width set) t) in omega (arith, fits, both, room))

  -- the first and the mark
  pub behind_fits : (t : List ℕ) → mark_width set ≤ n → columns_in (cut_behind set n t) ≤ n
  unfolding cut_behind
  behind_fits t room =
      cond_both (nat_le (columns_in t) n) t (first_fitting (n - mark_width set) t ++ cut_mark set) (λ xs. columns_in xs ≤ n) (λ h. leb-true (columns_in t) n h)
      (λ _. let fits = first_fits (n - mark_width set) t in let both = columns_behind (first_fitting (n - mark_width set) t) (cut_mark set) in omega (arith, fits, both, room))

-- a pair's text
pub fitted_fits : (set : CharSet) (n : ℕ) (text other : List ℕ) → 2 * mark_width set ≤ n → columns_in (fitted set n text other) ≤ n
unfolding fitted
fitted_fits set n text other room =
    let front = front_shown set n text other in
    let rest = cut_behind set (n - columns_in front) (drop (common_len text other) text) in
    let fits = front_fits set (n / 2) (take (common_len text other) text) (omega (arith, room)) in
    let left = behind_fits set (n - columns_in front) (drop (common_len text other) text) (omega (arith, fits, room)) in
    let both = columns_behind front rest in
    cond_both (nat_le (max (columns_in text) (columns_in other)) n) text (front ++ rest) (λ xs. columns_in xs ≤ n)
    (λ h. let le = leb-true (max (columns_in text) (columns_in other)) n h in omega (arith, le)) (λ _. omega (arith, fits, left, both))

-- a line that takes a width at most
pub line_fits : (view : View) (blanks : Blanks) (line other : List ℕ) → 0 < view.width → columns_in (shown_line view blanks line other) ≤ usable_width view
unfolding shown_line
line_fits view blanks line other asked =
    let whole : (view.width == 0) ≡ false = ne_eqb view.width 0 (λ e. omega (arith, e, asked)) in
    rw whole (fitted_fits view.char_set (usable_width view) (body view.tab_width blanks line) (body view.tab_width blanks other) (omega arith))

-- what two texts have in common is the same for both
first_taken : (c : ℕ) (t : List ℕ) (n : ℕ) → take (1 + n) (c ∷ t) ≡ c ∷ take n t
first_taken c t n = ap (λ m. take m (c ∷ t)) (let e : 1 + n ≡ suc n = omega arith in e)

pub common_front : (t u : List ℕ) → take (common_len t u) t ≡ take (common_len u t) u
common_front [] [] = refl
common_front [] (d ∷ u) = refl
common_front (c ∷ t) [] = refl
common_front (c ∷ t) (d ∷ u) = elim (cases_Bool (c == d)) [
  | inl e ↦
      let same : c ≡ d = eqb-true c d e in
      let back : (d == c) ≡ true = eq-eqb d c (sym same) in
      ap (λ b. take (cond b (1 + common_len t u) 0) (c ∷ t)) e
      ∙ first_taken c t (common_len t u) ∙ ap (λ x. x ∷ take (common_len t u) t) same ∙ ap (λ xs. d ∷ xs) (common_front t u)
      ∙ sym (ap (λ b. take (cond b (1 + common_len u t) 0) (d ∷ u)) back ∙ first_taken d u (common_len u t))
  | inr e ↦
      let back : (d == c) ≡ false = ne_eqb d c (λ same. absurd (true≢false (sym (eq-eqb c d (sym same)) ∙ e))) in
      ap (λ b. take (cond b (1 + common_len t u) 0) (c ∷ t)) e
      ∙ sym (ap (λ b. take (cond b (1 + common_len u t) 0) (d ∷ u)) back)
]

pub fronts_alike : (set : CharSet) (n : ℕ) (text other : List ℕ) → front_shown set n text other ≡ front_shown set n other text
fronts_alike set n text other = ap (cut_in_front set (n / 2)) (common_front text other)

-- a text that begins with a character for which there is room
record BeginsWith (c : ℕ) (text : List ℕ) : Type 0 where
  pub more : List ℕ
  pub is : text ≡ c ∷ more

behind_begins : (set : CharSet) (n c : ℕ) (rest : List ℕ) → char_columns c + mark_width set ≤ n → BeginsWith c (cut_behind set n (c ∷ rest))
unfolding cut_behind
behind_begins set n c rest room =
    let m = n - mark_width set in
    let one : (nat_le (char_columns c) m) ≡ true = le-leb (char_columns c) m (omega (arith, room)) in
    let first : first_fitting m (c ∷ rest) ≡ c ∷ first_fitting (m - char_columns c) rest = ap (λ b. cond b (c ∷ first_fitting (m - char_columns c) rest) []) one in
    cond_both (nat_le (columns_in (c ∷ rest)) n) (c ∷ rest) (first_fitting m (c ∷ rest) ++ cut_mark set) (BeginsWith c)
    (λ _. record { more = rest; is = refl })
    (λ _. record { more = first_fitting (m - char_columns c) rest ++ cut_mark set; is = ap (λ xs. xs ++ cut_mark set) first })

-- the first difference is shown
pub difference_shown : (set : CharSet) (n : ℕ) (text other : List ℕ) (c : ℕ) (rest : List ℕ) → drop (common_len text other) text ≡ c ∷ rest
    → 2 * mark_width set ≤ n → char_columns c + mark_width set ≤ n / 2 → ShowsDifference set n text other c
unfolding fitted
difference_shown set n text other c rest cut marks room =
    let k = common_len text other in
    let front = front_shown set n text other in
    let fits = front_fits set (n / 2) (take k text) (omega (arith, marks)) in
    let begins = behind_begins set (n - columns_in front) c rest (omega (arith, fits, room)) in
    let behind : cut_behind set (n - columns_in front) (drop k text) ≡ c ∷ begins.more = ap (cut_behind set (n - columns_in front)) cut ∙ begins.is in
    let all : text ≡ take k text ++ c ∷ rest = sym (take-append-drop k text) ∙ ap (λ xs. take k text ++ xs) cut in
    elim (cases_Bool (nat_le (max (columns_in text) (columns_in other)) n)) [
      | inl e ↦ record {
        front = take k text;
        more = rest;
        shown = ap (λ b. cond b text (front ++ cut_behind set (n - columns_in front) (drop k text))) e ∙ all;
        common = inl refl;
      }
      | inr e ↦ record {
        front = front;
        more = begins.more;
        shown = ap (λ b. cond b text (front ++ cut_behind set (n - columns_in front) (drop k text))) e ∙ ap (λ xs. front ++ xs) behind;
        common = inr refl;
      }
    ]
