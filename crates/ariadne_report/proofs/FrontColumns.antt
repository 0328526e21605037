-- The columns in front of the source texts of groups: how many gutter labels a group has, and the most of some groups.
use Rattle.std.proofs.Common.{◌≡◌, ℕ, suc, ◌+◌, ◌*◌, ◌<◌, ◌≤◌, Bool, true, false, not, ◌&&◌, List, [], ◌∷◌, refl, sym, ap, ◌∙◌, arith, max, cond, drop, take}
use Rattle.std.proofs.Common.{filter, length, map, get_or, nat_lt}
use Rattle.std.specs.Prelude.{◌==◌}
use Rattle.std.proofs.lemmas.Bool.{cond-false, cond-true, ne_eqb}
use Rattle.std.proofs.lemmas.List.{take_all}
use Rattle.std.proofs.lemmas.List.Filters.{length-filter_more}
use Rattle.std.proofs.lemmas.List.Sorted.{length_permutation}
use Rattle.ariadne_picture.specs.declared.label_info.LabelInfo.{LabelInfo}
use Rattle.ariadne_picture.specs.declared.switches.Switches.{Switches}
use Rattle.ariadne_picture.specs.Canvas.{number_width, sheet_of}
use Rattle.ariadne_picture.specs.Groups.{greatest}
use Rattle.ariadne_picture.specs.Margins.{columns_before_text, margin_len, most_before_text}
use Rattle.ariadne_picture.specs.Pieces.{column_size, gutter_len}
use Rattle.ariadne_picture.specs.Ranks.{Sheet, gutter_labels, is_on_one_line, multi_line_labels, span_len}
use Rattle.ariadne_picture.specs.Report.{ReportFields, World}
use Rattle.ariadne_picture.proofs.Lists.Permutations.{filter-in_order}
use Rattle.ariadne_report.specs.DrawnGroups.{gutter_sheet}

-- ---- gutter labels

-- a label owns a gutter column
abbrev pub owns_column : LabelInfo → Bool
owns_column a = not (is_on_one_line a) && a.has_message

-- a filter of a filter
filter-filter : {X : Type 0} (p q : X → Bool) (xs : List X) → filter q (filter p xs) ≡ filter (λ x. p x && q x) xs
filter-filter p q [] = refl
filter-filter p q (x ∷ xs) =
    elim (p x) as (λ v. filter q (cond v (x ∷ filter p xs) (filter p xs)) ≡ cond (v && q x) (x ∷ filter (λ y. p y && q y) xs) (filter (λ y. p y && q y) xs)) [
      | true ↦ (λ i. cond (q x) (x ∷ filter-filter p q xs i) (filter-filter p q xs i))
      | false ↦ filter-filter p q xs
    ]

-- the gutter labels are as many as the labels that own a column
pub gutter_labels_count : (labels : List LabelInfo) → length (gutter_labels labels) ≡ length (filter owns_column labels)
unfolding gutter_labels multi_line_labels
gutter_labels_count labels =
    let told = λ (a : LabelInfo). a.has_message in
    let long = λ (a : LabelInfo). not (is_on_one_line a) in
    let longer = λ (a b : LabelInfo). nat_lt (span_len b) (span_len a) in
    length_permutation _ _ (filter-in_order told longer (filter long labels)) ∙ ap length (filter-filter long told labels)

module _ (labels : List LabelInfo) (i : ℕ) (d : LabelInfo) (less : i < length labels) (b : Bool) (is : b ≡ owns_column (get_or labels i d))
    (n new : ℕ) (so_far : n ≡ length (filter owns_column (take i labels))) where
  -- one label more
  next_count : length (filter owns_column (take (i + 1) labels)) ≡ n + cond b 1 0
  next_count =
      length-filter_more owns_column labels i d less
      ∙ (λ k. sym so_far k + cond (sym is k) 1 0)

  -- that owns a column
  pub owner_more : b ≡ true → new ≡ n + 1 → new ≡ length (filter owns_column (take (i + 1) labels))
  owner_more on e = e ∙ ap (λ c. n + cond c 1 0) (sym on) ∙ sym next_count

  -- or none
  pub owner_none : b ≡ false → new ≡ n → new ≡ length (filter owns_column (take (i + 1) labels))
  owner_none off e = let z : n ≡ n + 0 = omega arith in e ∙ z ∙ ap (λ c. n + cond c 1 0) (sym off) ∙ sym next_count

-- the labels that own a column are the gutter labels
pub owners_all : (labels : List LabelInfo) (n i : ℕ) → length labels ≤ i → n ≡ length (filter owns_column (take i labels))
    → n ≡ length (gutter_labels labels)
owners_all labels n i past all =
    all ∙ ap (λ xs. length (filter owns_column xs)) (take_all i labels past) ∙ sym (gutter_labels_count labels)

-- so many gutter columns are there
pub gutter_none : (m : ℕ) → 0 ≡ m → 0 ≡ cond (m == 0) 0 (m + 1)
gutter_none m e = rw (← e) refl

pub gutter_some : (m n : ℕ) → n ≡ m → 0 < n → n + 1 ≡ cond (m == 0) 0 (m + 1)
gutter_some m n e some = rw (← e) (sym (cond-false (n == 0) 0 (n + 1) (ne_eqb n 0 (λ z. omega arith))))

pub gutter_is : (s : Sheet) (n : ℕ) → n ≡ cond (length (gutter_labels s.labels) == 0) 0 (length (gutter_labels s.labels) + 1) → n ≡ gutter_len s
unfolding gutter_len
gutter_is s n e = e

-- the lines of a group count for nothing
pub columns_over : (digits : ℕ) (switches : Switches) (labels : List LabelInfo) (s : Sheet) → s.labels ≡ labels → s.switches ≡ switches
    → columns_before_text digits (gutter_sheet switches labels) ≡ columns_before_text digits s
unfolding columns_before_text gutter_len
columns_over digits switches labels s same on =
    λ i. margin_len (sym on i) digits
    + cond (length (gutter_labels (sym same i)) == 0) 0 (length (gutter_labels (sym same i)) + 1) * column_size (sym on i)

-- they take a cell each, or two
module _ (s : Sheet) (switches : Switches) (n : ℕ) (is : n ≡ gutter_len s) (same : s.switches ≡ switches) where
  pub compact_columns : switches.compact ≡ true → n ≡ gutter_len s * column_size s.switches
  unfolding column_size
  compact_columns on =
      let one : column_size s.switches ≡ 1 = cond-true s.switches.compact 1 2 (ap (λ (w : Switches). w.compact) same ∙ on) in
      let all : gutter_len s * column_size s.switches ≡ gutter_len s * 1 = ap (λ k. gutter_len s * k) one in
      omega (arith, is, all)

  pub wide_columns : switches.compact ≡ false → 2 * n ≡ gutter_len s * column_size s.switches
  unfolding column_size
  wide_columns off =
      let two : column_size s.switches ≡ 2 = cond-false s.switches.compact 1 2 (ap (λ (w : Switches). w.compact) same ∙ off) in
      let all : gutter_len s * column_size s.switches ≡ gutter_len s * 2 = ap (λ k. gutter_len s * k) two in
      omega (arith, is, all)

-- ---- the most of some groups

module _ {S Id : Type 0} (w : World S Id) (r : ReportFields S) (digits : ℕ) where
  -- the most of these, where line numbers take `digits` columns
  abbrev pub most_of : List (List LabelInfo) → ℕ
  most_of gs = greatest (map (λ group. columns_before_text digits (sheet_of w r group)) gs)

  -- no group has none
  pub most_none : most_of [] ≡ 0
  unfolding greatest
  most_none = refl

  -- one group more
  pub most_step : (gs : List (List LabelInfo)) (i : ℕ) (group : List LabelInfo) → drop i gs ≡ group ∷ drop (suc i) gs → (n most new all : ℕ)
      → n ≡ columns_before_text digits (sheet_of w r group) → new ≡ max most n → all ≡ max most (most_of (drop i gs))
      → all ≡ max new (most_of (drop (suc i) gs))
  unfolding greatest
  most_step gs i group at n most new all is more so_far =
      let both : most_of (drop i gs) ≡ max n (most_of (drop (suc i) gs)) =
      ap most_of at ∙ ap (λ k. max k (most_of (drop (suc i) gs))) (sym is) in
      omega arith

-- that is what is asked for, with the number width of the groups
pub most_is : {S Id : Type 0} (w : World S Id) (r : ReportFields S) (gs : List (List LabelInfo)) (digits : ℕ) → digits ≡ number_width w r gs
    → most_of w r digits gs ≡ most_before_text w r gs
unfolding most_before_text
most_is w r gs digits e = ap (λ n. most_of w r n gs) e
