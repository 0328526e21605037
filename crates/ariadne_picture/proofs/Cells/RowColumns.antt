-- How many columns a source row takes: those in front of its text, and those of the places of its line.
use Rattle.std.proofs.Common.{◌≡◌, ℕ, zero, suc, ◌+◌, ◌<◌, ◌≤◌, ◌⊎◌, Bool, true, false, List, [], ◌∷◌, map, length, replicate, refl, sym, ap, ◌∙◌, arith, inl, inr}
use Rattle.std.specs.Prelude.{slice_get, slice_index, option_to_list, unwrap_or, ◌&&◌, ◌==◌, nat_lt, if◌then◌else◌, ◌++◌}
use Rattle.std.specs.List.{AllByRecursion, range_with_len}
use Rattle.std.proofs.lemmas.Bool.{cases_Bool, cond-true, cond-false, lt-ltb, ltb-false}
use Rattle.std.proofs.lemmas.List.{length-replicate}
use Rattle.std.proofs.lemmas.List.FromFn.{get_or-map-range_with_len}
use Rattle.std.proofs.lemmas.Option.{unwrap_or-slice_get}
use Rattle.ariadne_base.specs.Locations.{upto}
use Rattle.ariadne_picture.specs.declared.cell.Paint.{Paint}
use Rattle.ariadne_picture.specs.declared.label_info.LabelInfo.{LabelInfo}
use Rattle.ariadne_picture.specs.declared.label_info.LineLabel.{LineLabel}
use Rattle.ariadne_picture.specs.declared.sight.Part.{Part}
use Rattle.ariadne_picture.specs.declared.sight.Sight.{Sight}
use Rattle.ariadne_picture.specs.declared.sight.Sight.TheVariants.{Seen, Marked, Unseen}
use Rattle.ariadne_picture.specs.declared.switches.Switches.{Switches}
use Rattle.ariadne_picture.specs.Columns.{Layout, column_of, columns_of, cut_columns, is_too_wide, layout_of, needed_labels, or_begin, parts_of, place_part}
use Rattle.ariadne_picture.specs.Columns.{shown, shown_columns, sight_in, sight_of, sights_of, whole_column, whole_width, widened, width}
use Rattle.ariadne_picture.specs.Lists.{total}
use Rattle.ariadne_picture.specs.Margins.{columns_before_text, margin_len}
use Rattle.ariadne_picture.specs.Pieces.{Piece, Section, Texts, blank_piece, char_pieces, gutter_pieces, margin_pieces, row_pieces}
use Rattle.ariadne_picture.specs.Pieces.{seen_pieces, shown_pieces, source_pieces}
use Rattle.ariadne_picture.specs.Ranks.{Sheet, multi_line_labels}
use Rattle.ariadne_picture.specs.Rows.{Row, source}
use Rattle.ariadne_picture.proofs.Cells.CutLines.{cut-fits}
use Rattle.ariadne_picture.proofs.Cells.LineColumns.{column_of-total}
use Rattle.ariadne_picture.proofs.Cells.RowCells.{all-replicate, front_pieces, gutter-columns, length-gutter, source-parts}
use Rattle.ariadne_picture.proofs.Lists.Occurrences.{total-append, total-joined}
use Rattle.ariadne_picture.proofs.Parts.{place_pieces}

-- how many columns a piece takes
abbrev pub columns : Piece → ℕ
columns q = q.columns

-- ---- the margin and the gutter

-- a sum of ones is their number
total-ones : (xs : List Piece) → AllByRecursion (λ q. columns q ≡ 1) xs → total columns xs ≡ length xs
unfolding total
total-ones [] a = refl
total-ones (x ∷ xs) a = let one = a.0 in let e = total-ones xs a.1 in omega (arith, one, e)

-- a margin has one blank, the number width, a blank and a bar, and perhaps a blank
margin-columns : (switches : Switches) (w display_offset : ℕ) (x : Row)
    → total columns (margin_pieces switches w display_offset x) ≡ margin_len switches w
unfolding margin_pieces margin_len total
margin-columns switches w display_offset x = by switches.compact
  where
    by : (compact : Bool) → 1 + (w + 2 + total columns (if compact then [] else blank_piece ∷ [])) ≡ w + (if compact then 3 else 4)
    by true = omega arith
    by false = omega arith

-- and a gutter cells of one column
pub front-columns : (w : ℕ) (s : Section) (x : Row) → total columns (front_pieces w s x) ≡ columns_before_text w s.sheet
unfolding columns_before_text
front-columns w s x =
    total-append columns (margin_pieces s.sheet.switches w s.display_offset x) (gutter_pieces s.sheet x)
    ∙ (λ i. margin-columns s.sheet.switches w s.display_offset x i
    + (total-ones (gutter_pieces s.sheet x) (gutter-columns s.sheet x) ∙ length-gutter s.sheet x) i)

-- ---- the text

-- a character takes the columns that it is shown in
char-columns : (switches : Switches) (paint : Paint) (x c : ℕ)
    → total columns (char_pieces switches paint x c) ≡ shown_columns switches.tab_width x c
unfolding char_pieces total
char-columns switches paint x c = elim (cases_Bool (c == 9)) [
  | inl tab ↦
      rw tab
      (total-ones (replicate n blank) (all-replicate (λ (q : Piece). q.columns ≡ 1) n blank refl) ∙ length-replicate n blank)
  | inr other ↦ rw other (omega arith)
]
  where
    n : ℕ
    n = shown_columns switches.tab_width x c

    blank : Piece
    blank = record { text = 32 ∷ []; paint = paint; columns = 1 }

-- a place those that are seen of it
seen-columns : (switches : Switches) (paint : Paint) (y : Layout) (k : ℕ) (sight : Sight)
    → total columns (seen_pieces switches paint y k (slice_index (shown y) k) sight)
    ≡ columns_of switches.char_set sight (whole_width switches.tab_width (shown y) k)
unfolding seen_pieces columns_of whole_width total
seen-columns switches paint y k Seen = char-columns switches paint (whole_column switches.tab_width (shown y) k) (slice_index (shown y) k)
seen-columns switches paint y k Marked = omega arith
seen-columns switches paint y k Unseen = refl

-- so many has a place of the shown text
width-seen : (switches : Switches) (y : Layout) (k : ℕ) → k < length (shown y)
    → width switches y k ≡ columns_of switches.char_set (sight_of y k) (whole_width switches.tab_width (shown y) k)
unfolding width
width-seen switches y k few = cond-true (nat_lt k (length (shown y))) _ 1 (lt-ltb k (length (shown y)) few)

-- sums that agree on a range
total-range : (f g : ℕ → ℕ) (a n : ℕ) → ((k : ℕ) → a ≤ k → k < a + n → f k ≡ g k) → total f (range_with_len a n) ≡ total g (range_with_len a n)
unfolding total
total-range f g a zero e = refl
total-range f g a (suc n) e =
    λ i. e a (omega arith) (omega arith) i + total-range f g (a + 1) n (λ k low high. e k (omega (arith, low)) (omega (arith, high))) i

-- the text of a source row takes the columns of its places
shown-total : (switches : Switches) (labels : List LabelInfo) (y : Layout)
    → total columns (shown_pieces switches labels y) ≡ column_of switches y (length (shown y))
unfolding shown_pieces source_pieces
shown-total switches labels y =
    total-joined columns (place_pieces switches labels y) (upto (length (shown y)))
    ∙ total-range (λ k. total columns (place_pieces switches labels y k)) (width switches y) 0 (length (shown y))
    (λ k low high. seen-columns switches _ y k (sight_of y k) ∙ sym (width-seen switches y k (omega (arith, high))))
    ∙ sym (column_of-total switches y (length (shown y)))

-- ---- a source row

-- it takes both
pub row-columns : (t : Texts) (w l : ℕ) (s : Section) → t.switches ≡ s.sheet.switches
    → total columns (row_pieces t w s (source l))
    ≡ columns_before_text w s.sheet + column_of s.sheet.switches (layout_of s.sheet l) (length (shown (layout_of s.sheet l)))
row-columns t w l s same =
    let y = layout_of s.sheet l in
    ap (total columns) (source-parts t w s l)
    ∙ total-append columns (front_pieces w s (source l)) (shown_pieces t.switches (multi_line_labels s.sheet.labels) y)
    ∙ (λ i. front-columns w s (source l) i
    + (shown-total t.switches (multi_line_labels s.sheet.labels) y ∙ ap (λ switches. column_of switches y (length (shown y))) same) i)

-- a line with these labels, of which this is seen
module _ (switches : Switches) (labels : List LineLabel) (y : Layout) (is : y.sights ≡ sights_of switches y.offset labels (shown y)) where
  -- the parts that are shown where it is cut
  abbrev parts : List Part
  parts = parts_of switches y.offset labels (shown y)

  -- what is seen of its places then
  abbrev listed : List Sight
  listed = map (sight_in parts) (upto (length (shown y)))

  -- where it is cut, a place is seen as the parts tell
  cut-sight : is_too_wide switches (shown y) ≡ true → (k : ℕ) → k < length (shown y) → sight_of y k ≡ sight_in parts k
  unfolding sight_of sights_of
  cut-sight on k few =
      let z : 0 + k ≡ k = omega arith in
      ap (λ sights. unwrap_or (slice_get sights k) Seen) (is ∙ cond-true (is_too_wide switches (shown y)) listed [] on)
      ∙ unwrap_or-slice_get listed k Seen ∙ get_or-map-range_with_len (sight_in parts) 0 (length (shown y)) k k Seen few z

  -- where it isn't, each place is
  whole-sight : is_too_wide switches (shown y) ≡ false → (k : ℕ) → sight_of y k ≡ Seen
  unfolding sight_of sights_of
  whole-sight off k = ap (λ sights. unwrap_or (slice_get sights k) Seen) (is ∙ cond-false (is_too_wide switches (shown y)) listed [] off)

  -- so a cut line takes the columns of its parts
  cut-total : is_too_wide switches (shown y) ≡ true → column_of switches y (length (shown y)) ≡ cut_columns switches (shown y) parts
  unfolding cut_columns
  cut-total on =
      column_of-total switches y (length (shown y))
      ∙ total-range (width switches y) (λ k. columns_of switches.char_set (sight_in parts k) (whole_width switches.tab_width (shown y) k)) 0
      (length (shown y))
      (λ k low high.
      let few : k < length (shown y) = omega (arith, high) in
      width-seen switches y k few
      ∙ ap (λ sight. columns_of switches.char_set sight (whole_width switches.tab_width (shown y) k)) (cut-sight on k few))

  -- and another all of its own
  whole-total : is_too_wide switches (shown y) ≡ false → (k : ℕ) → k ≤ length (shown y)
      → column_of switches y k ≡ whole_column switches.tab_width (shown y) k
  unfolding column_of columns_of whole_column whole_width
  whole-total off zero h = refl
  whole-total off (suc k) h =
      λ i. whole-total off k (omega (arith, h)) i
      + (width-seen switches y k (omega (arith, h))
      ∙ ap (λ sight. columns_of switches.char_set sight (whole_width switches.tab_width (shown y) k)) (whole-sight off k)) i

  -- which are no more than are asked for
  whole-few : is_too_wide switches (shown y) ≡ false → 0 < switches.width
      → whole_column switches.tab_width (shown y) (length (shown y)) ≤ switches.width
  unfolding is_too_wide
  whole-few off some =
      let all = whole_column switches.tab_width (shown y) (length (shown y)) in
      ltb-false switches.width all (ap (λ asked. asked && nat_lt switches.width all) (sym (lt-ltb 0 switches.width some)) ∙ off)

  -- the text fits, or the letters are shown that strokes lead to and no others
  pub line-fits : 0 < switches.width → (column_of switches y (length (shown y)) ≤ switches.width)
      ⊎ (parts ≡ widened switches.tab_width (shown y) 0 (or_begin (map place_part (needed_labels labels))))
  line-fits some = elim (cases_Bool (is_too_wide switches (shown y))) [
    | inl on ↦ elim (cut-fits switches y.offset labels (shown y)) [
      | inl few ↦ inl (let e = cut-total on in omega (arith, e, few))
      | inr places ↦ inr places
    ]
    | inr off ↦ inl (let e = whole-total off (length (shown y)) (omega arith) in let few = whole-few off some in omega (arith, e, few))
  ]

-- what is seen of a line of a group
sights-are : (h : Sheet) (l : ℕ) → let y = layout_of h l in
    y.sights ≡ sights_of h.switches y.offset (option_to_list y.margin ++ y.labels) (shown y)
unfolding layout_of shown
sights-are h l = refl

-- so a source row fits
pub row-fits : (t : Texts) (w l : ℕ) (s : Section) → t.switches ≡ s.sheet.switches → 0 < s.sheet.switches.width
    → let y = layout_of s.sheet l in
    let labels = option_to_list y.margin ++ y.labels in
    (total columns (row_pieces t w s (source l)) ≤ columns_before_text w s.sheet + s.sheet.switches.width)
    ⊎ (parts_of s.sheet.switches y.offset labels (shown y) ≡ widened s.sheet.switches.tab_width (shown y) 0
    (or_begin (map place_part (needed_labels labels))))
row-fits t w l s same some =
    let y = layout_of s.sheet l in
    let all = row-columns t w l s same in
    elim (line-fits s.sheet.switches (option_to_list y.margin ++ y.labels) y (sights-are s.sheet l) some) [
      | inl few ↦ inl (omega (arith, all, few))
      | inr places ↦ inr places
    ]
