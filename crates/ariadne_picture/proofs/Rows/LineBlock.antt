-- Where the rows of one line stand within its group: the source row, and its block, the rows of its line labels.
use Rattle.std.proofs.Common.{◌≡◌, ℕ, zero, suc, ◌+◌, ◌-◌, ◌<◌, ◌≤◌, Bool, true, false, ◌&&◌, List, [], ◌∷◌, ◌++◌, length, Some, refl, sym, ap, ◌∙◌, subst}
use Rattle.std.proofs.Common.{arith, ◌==◌, nat_lt, ◌⊎◌, inl, inr, if◌then◌else◌, append_assoc}
use Rattle.std.specs.Prelude.{slice_get, filter}
use Rattle.std.specs.List.{AllByRecursion, enumerate_from, range_with_len}
use Rattle.std.proofs.lemmas.Bool.{cases_Bool, cond_both, cond-false, eq-eqb, ne_eqb}
use Rattle.std.proofs.lemmas.List.Elements.{filter-append}
use Rattle.ariadne_picture.proofs.Rows.LoneRows.{lone-block, label-block}
use Rattle.ariadne_picture.specs.declared.label_info.LineLabel.{LineLabel}
use Rattle.ariadne_picture.specs.Lists.{joined}
use Rattle.ariadne_picture.specs.Ranks.{Sheet, is_hidden_line, line_labels, first_line, last_line, group_lines}
use Rattle.ariadne_picture.specs.Rows.{row_key, Row, group_header, spacer, source, alternate, arrow, tail, help, note}
use Rattle.ariadne_picture.proofs.Rows.RowPlacing.{row_part, row_line, row_step}
use Rattle.ariadne_picture.specs.Rows.{label_rows, is_lone, line_rows, asides, rows}
use Rattle.ariadne_picture.proofs.Lists.ListFacts.{all-weaker, all-append, all-joined, all-enumerated, filter-all, filter-none}
use Rattle.ariadne_picture.proofs.Lists.Joined.{joined-append}
use Rattle.ariadne_picture.proofs.Rows.RowOrder.{FromStep, AtLine, FromLine, all_label_rows, shown_rows, block-from, line-at, lines-from, aside-rows-behind}
use Rattle.ariadne_picture.proofs.Rows.RowOrder.{tail-behind}
use Rattle.ariadne_picture.proofs.Rows.RowsThere.{shown}
use Rattle.ariadne_picture.proofs.Rows.RowNumbers.{at-front, at-back}

-- ---- which rows are of the block of line l

abbrev pub of_block : ℕ → Row → Bool
of_block l y = (row_part y == 2) && (row_line y == l) && nat_lt 0 (row_step y)

-- not those of another part
other-part : (p n k l : ℕ) → (p ≡ 2 → ⊥) → ((p == 2) && (n == l) && nat_lt 0 k) ≡ false
other-part p n k l h = rw (ne_eqb p 2 h) refl

-- a test that fails in the middle
and-middle : (b c : Bool) → (b && false && c) ≡ false
and-middle true c = refl
and-middle false c = refl

-- nor those of another line
other-line : (p n k l : ℕ) → (n ≡ l → ⊥) → ((p == 2) && (n == l) && nat_lt 0 k) ≡ false
other-line p n k l h = rw (ne_eqb n l h) (and-middle (p == 2) (nat_lt 0 k))

-- those of the line behind its source row
this-block : (p n k l : ℕ) → p ≡ 2 → n ≡ l → 1 ≤ k → ((p == 2) && (n == l) && nat_lt 0 k) ≡ true
this-block p n k l e f h = rw (eq-eqb p 2 e, eq-eqb n l f, Rattle.std.proofs.lemmas.Bool.lt-ltb 0 k (omega arith)) refl

-- the source row has no step
no-step : (l : ℕ) → of_block l (source l) ≡ false
unfolding row_key
no-step l = rw (eq-eqb l l refl) refl

-- six lists in two groupings
regroup : {X : Type 0} (a b c d e f : List X) → a ++ (b ++ (c ++ d)) ++ e ++ f ≡ (a ++ b) ++ (c ++ (d ++ e ++ f))
regroup a b c d e f = simp append_assoc

-- ---- the lines of a group up to one of them, that one, and those below

-- a range in two parts
pub range-append : (a m n : ℕ) → range_with_len a (m + n) ≡ range_with_len a m ++ range_with_len (a + m) n
range-append a zero n = let e : 0 + n ≡ n = omega arith in let f : a ≡ a + 0 = omega arith in ap (range_with_len a) e ∙ ap (λ b. range_with_len b n) f
range-append a (suc m) n =
    let e : suc m + n ≡ suc (m + n) = omega arith in
    let f : a + 1 + m ≡ a + suc m = omega arith in
    ap (range_with_len a) e ∙ ap (λ t. a ∷ t) (range-append (a + 1) m n ∙ ap (λ b. range_with_len (a + 1) m ++ range_with_len b n) f)

-- rows of lines from a to before l are of none but these
lines-before : (s : Sheet) (l a m : ℕ) → a + m ≤ l → AllByRecursion (λ y. of_block l y ≡ false) (joined (line_rows s) (range_with_len a m))
unfolding joined
lines-before s l a zero h = tt
lines-before s l a (suc m) h =
    all-append (λ y. of_block l y ≡ false) (line_rows s a) (joined (line_rows s) (range_with_len (a + 1) m))
    (all-weaker (AtLine 2 a) (λ y. of_block l y ≡ false) (line_rows s a)
    (λ y at. other-line (row_part y) (row_line y) (row_step y) l (λ e. let line = at.line in omega arith)) (line-at s a))
    (lines-before s l (a + 1) m (omega arith))

-- ---- the rows of a line label

-- y is a row of line label number r of line l, which is x
pub record IsBlockRow (s : Sheet) (l : ℕ) (y : Row) : Type 0 where
  pub rank : ℕ
  pub label : LineLabel
  pub there : slice_get (line_labels s.labels l) rank ≡ Some label
  pub message : label.info.has_message ≡ true
  pub kind : (y ≡ arrow l rank) ⊎ ((y ≡ alternate l rank) × (s.switches.compact ≡ false))

-- y is the row with the underlines of line l alone
abbrev pub IsLoneRow : Sheet → ℕ → Row → Type 0
IsLoneRow s l y = (is_lone s l ≡ true) × (y ≡ alternate l (length (line_labels s.labels l)))

-- the rows of labels are such rows
label-rows-are : (s : Sheet) (l : ℕ) → AllByRecursion (IsBlockRow s l) (all_label_rows s l)
unfolding label_rows
label-rows-are s l =
    all-joined (IsBlockRow s l) (λ e. slice_get (line_labels s.labels l) e.0 ≡ Some e.1) (label_rows s.switches.compact l)
    (enumerate_from 0 (line_labels s.labels l))
    (λ e h. one e.0 e.1 h) (all-enumerated (line_labels s.labels l) 0 (line_labels s.labels l)
    (λ k. let z : 0 + k ≡ k = omega arith in sym (ap (slice_get (line_labels s.labels l)) z)))
  where
    two : (compact : Bool) (r : ℕ) (x : LineLabel) → compact ≡ s.switches.compact → slice_get (line_labels s.labels l) r ≡ Some x → x.info.has_message ≡ true
        → AllByRecursion (IsBlockRow s l) ((if compact then [] else alternate l r ∷ []) ++ arrow l r ∷ [])
    two true r x c e m = (record { rank = r; label = x; there = e; message = m; kind = inl refl }, tt)
    two false r x c e m = (
      record { rank = r; label = x; there = e; message = m; kind = inr (refl, sym c) },
      (record { rank = r; label = x; there = e; message = m; kind = inl refl }, tt),
    )

    one : (r : ℕ) (x : LineLabel) → slice_get (line_labels s.labels l) r ≡ Some x → AllByRecursion (IsBlockRow s l) (label_rows s.switches.compact l (r, x))
    one r x e =
        cond_both x.info.has_message ((if s.switches.compact then [] else alternate l r ∷ []) ++ arrow l r ∷ []) [] (AllByRecursion (IsBlockRow s l))
        (λ m. two s.switches.compact r x refl e m) (λ _. tt)

-- where a label has a message the rows of a block are such rows
pub block-rows-are : (s : Sheet) (l : ℕ) → is_lone s l ≡ false → AllByRecursion (IsBlockRow s l) (shown_rows s l)
block-rows-are s l off = subst (AllByRecursion (IsBlockRow s l)) (sym (label-block s l off)) (label-rows-are s l)

-- else it is the one row
pub block-kinds : (s : Sheet) (l : ℕ) → AllByRecursion (λ y. IsBlockRow s l y ⊎ IsLoneRow s l y) (shown_rows s l)
block-kinds s l = elim (cases_Bool (is_lone s l)) [
  | inl on ↦ rw (lone-block s l on) (inr (on, refl), tt)
  | inr off ↦
      all-weaker (IsBlockRow s l) (λ y. IsBlockRow s l y ⊎ IsLoneRow s l y) (shown_rows s l) (λ y b. inl b) (block-rows-are s l off)
]

-- ---- the parts of a group's rows about line l

module _ (s : Sheet) (is_last : Bool) (helps notes : List (List ℕ)) (l : ℕ) where
  -- the rows above line l
  unfoldable pub above : List Row
  above =
      (group_header ∷ (if s.switches.compact then [] else spacer ∷ []))
      ++ joined (line_rows s) (range_with_len (first_line s) (l - first_line s))

  -- those below it and its block
  unfoldable pub below : List Row
  below =
      joined (line_rows s) (range_with_len (l + 1) (last_line s - l))
      ++ (if is_last then asides s.switches.compact help helps ++ asides s.switches.compact note notes else [])
      ++ (if s.switches.compact then [] else tail ∷ [])

  -- none of the rows above is of the block
  above-other : AllByRecursion (λ y. of_block l y ≡ false) above
  unfolding above joined row_key
  above-other =
      all-append (λ y. of_block l y ≡ false) (group_header ∷ (if s.switches.compact then [] else spacer ∷ []))
      (joined (line_rows s) (range_with_len (first_line s) (l - first_line s)))
      (refl, cond_both s.switches.compact [] (spacer ∷ []) (AllByRecursion (λ y. of_block l y ≡ false)) (λ _. tt) (λ _. (refl, tt)))
      (cases (Rattle.std.proofs.lemmas.Bool.cases_lt l (first_line s)))
    where
      cases : (l < first_line s) ⊎ (first_line s ≤ l)
          → AllByRecursion (λ y. of_block l y ≡ false)
          (joined (line_rows s) (range_with_len (first_line s) (l - first_line s)))
      cases (inr h) = lines-before s l (first_line s) (l - first_line s) (omega arith)
      cases (inl h) = let z : l - first_line s ≡ 0 = omega arith in rw z tt

  -- nor is any below
  below-other : AllByRecursion (λ y. of_block l y ≡ false) below
  unfolding below
  below-other =
      let P : Row → Type 0 = λ y. of_block l y ≡ false in
      let lines = joined (line_rows s) (range_with_len (l + 1) (last_line s - l)) in
      let aside = (if is_last then asides s.switches.compact help helps ++ asides s.switches.compact note notes else []) in
      let end = (if s.switches.compact then [] else tail ∷ []) in
      all-append P (lines ++ aside) end
      (all-append P lines aside
      (all-weaker (FromLine 2 (l + 1)) P lines (λ y h. other-line (row_part y) (row_line y) (row_step y) l (λ e. let line = h.line in omega arith))
      (lines-from s (l + 1) (last_line s - l)))
      (all-weaker (λ y. (3 ≤ row_part y) × (row_part y < 5)) P aside
      (λ y h. other-part (row_part y) (row_line y) (row_step y) l (λ e. let from = h.0 in omega arith))
      (aside-rows-behind s.switches.compact is_last helps notes).parts))
      (all-weaker (λ y. (5 ≤ row_part y) × (row_part y < 6)) P end
      (λ y h. other-part (row_part y) (row_line y) (row_step y) l (λ e. let from = h.0 in omega arith)) (tail-behind s.switches.compact).parts)

  -- each row of the block is
  block-all : AllByRecursion (λ y. of_block l y ≡ true) (shown_rows s l)
  unfolding shown_rows
  block-all =
      all-weaker (FromStep 2 l 1) (λ y. of_block l y ≡ true) (shown_rows s l)
      (λ y h. this-block (row_part y) (row_line y) (row_step y) l h.part h.line h.step) (block-from s l)

  module _ (low : first_line s ≤ l) (high : l ≤ last_line s) (seen : is_hidden_line s l ≡ false) where
    -- the rows of a group that shows line l
    pub rows-about : rows s is_last helps notes ≡ above ++ (source l ∷ shown_rows s l ++ below)
    unfolding rows above below group_lines joined shown_rows
    rows-about =
        let a = first_line s in
        let top = group_header ∷ (if s.switches.compact then [] else spacer ∷ []) in
        let aside = (if is_last then asides s.switches.compact help helps ++ asides s.switches.compact note notes else []) in
        let end = (if s.switches.compact then [] else tail ∷ []) in
        let n : suc (last_line s) - a ≡ (l - a) + suc (last_line s - l) = omega arith in
        let m : a + (l - a) ≡ l = omega arith in
        let lines : joined (line_rows s) (group_lines s) ≡ joined (line_rows s) (range_with_len a (l - a))
        ++ (line_rows s l ++ joined (line_rows s) (range_with_len (l + 1) (last_line s - l))) =
        ap (λ k. joined (line_rows s) (range_with_len a k)) n ∙ ap (joined (line_rows s)) (range-append a (l - a) (suc (last_line s - l)))
        ∙ joined-append (line_rows s) (range_with_len a (l - a)) (range_with_len (a + (l - a)) (suc (last_line s - l)))
        ∙ ap (λ b. joined (line_rows s) (range_with_len a (l - a))
        ++ joined (line_rows s) (range_with_len b (suc (last_line s - l)))) m in
        ap (λ t. top ++ t ++ aside ++ end) (lines ∙ ap
        (λ t. joined (line_rows s) (range_with_len a (l - a)) ++ (t ++ joined (line_rows s) (range_with_len (l + 1) (last_line s - l))))
        (shown s l seen))
        ∙ regroup top (joined (line_rows s) (range_with_len a (l - a))) (source l ∷ shown_rows s l)
        (joined (line_rows s) (range_with_len (l + 1) (last_line s - l))) aside end

    -- the source row is behind those above
    pub source-place : slice_get (rows s is_last helps notes) (length above) ≡ Some (source l)
    source-place =
        let z : length above ≡ length above + 0 = omega arith in
        ap (λ xs. slice_get xs (length above)) rows-about ∙ ap (slice_get (above ++ (source l ∷ shown_rows s l ++ below))) z
        ∙ at-back above (source l ∷ shown_rows s l ++ below) 0

    -- the block is behind it
    pub block-place : (j : ℕ) (y : Row) → slice_get (shown_rows s l) j ≡ Some y
        → slice_get (rows s is_last helps notes) (length above + suc j) ≡ Some y
    block-place j y e =
        ap (λ xs. slice_get xs (length above + suc j)) rows-about ∙ at-back above (source l ∷ shown_rows s l ++ below) (suc j)
        ∙ at-front (shown_rows s l) below j y e

    -- and this many rows long
    pub block-count : length (filter (of_block l) (rows s is_last helps notes)) ≡ length (shown_rows s l)
    unfolding row_key
    block-count =
        ap (λ xs. length (filter (of_block l) xs)) rows-about
        ∙ ap length (filter-append (of_block l) above (source l ∷ shown_rows s l ++ below)
        ∙ ap (λ t. t ++ filter (of_block l) (source l ∷ shown_rows s l ++ below)) (filter-none (of_block l) above above-other)
        ∙ cond-false (of_block l (source l)) (source l ∷ filter (of_block l) (shown_rows s l ++ below))
        (filter (of_block l) (shown_rows s l ++ below)) (no-step l)
        ∙ filter-append (of_block l) (shown_rows s l) below
        ∙ (λ i. filter-all (of_block l) (shown_rows s l) block-all i ++ filter-none (of_block l) below below-other i)
        ∙ Rattle.std.proofs.lemmas.List.append-nil (shown_rows s l))
