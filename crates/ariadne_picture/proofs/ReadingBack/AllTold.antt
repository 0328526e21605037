-- What the message rows of a picture tell is what its labels are: each label that has a message has one row, and no other row has a message.
use Rattle.ariadne_picture.specs.ReadBack.Rows.{Known}
use Rattle.std.proofs.Common.{◌≡◌, ◌≢◌, ℕ, ◌+◌, ◌-◌, Bool, true, false, not, List, [], ◌∷◌, ◌++◌, map, filter, length, Some, refl, sym, ap, ◌∙◌}
use Rattle.std.proofs.Common.{subst, arith, IsPermutation}
use Rattle.std.specs.Prelude.{slice_get, nat_lt}
use Rattle.std.specs.List.{AllByRecursion, enumerate_from}
use Rattle.std.proofs.lemmas.List.{map-append}
use Rattle.std.proofs.lemmas.List.Sorted.{IsPermutation-trans, IsPermutation-append_right, IsPermutation-filter_both, IsPermutation-map}
use Rattle.std.proofs.lemmas.Option.{slice_get_within}
use Rattle.ariadne_picture.specs.declared.label_info.LabelInfo.{LabelInfo}
use Rattle.ariadne_picture.specs.declared.label_info.LineLabel.{LineLabel}
use Rattle.ariadne_picture.specs.Lists.{joined, mapped_numbered}
use Rattle.ariadne_picture.specs.Ranks.{is_on_one_line, is_start, span_len, multi_line_labels, gutter_labels}
use Rattle.ariadne_picture.specs.Rows.{Row, source, arrow}
use Rattle.ariadne_picture.specs.Pieces.{Section, message_at}
use Rattle.ariadne_picture.specs.Placing.Group.{messages_of}
use Rattle.ariadne_picture.specs.Placing.Rows.{between}
use Rattle.ariadne_picture.specs.Placing.Together.{is_placing}
use Rattle.ariadne_picture.specs.ReadBack.Answer.{Told, has_message, told_by, read_back}
use Rattle.ariadne_picture.specs.ReadBack.Labels.{told_within, told_over, group_told, labels_told}
use Rattle.ariadne_picture.proofs.Lists.ListFacts.{all-filtered, all-joined, all-map, all-every, Increasing}
use Rattle.ariadne_picture.proofs.Lists.Elements.{Has, has-filter, has-map, has-joined, all-from, all-numbered, all-range}
use Rattle.ariadne_picture.proofs.Lists.Joined.{map-joined}
use Rattle.ariadne_picture.proofs.Lists.Permutations.{joined-permutation, filter-in_order, filter-twice, same-numbers}
use Rattle.ariadne_picture.proofs.Labels.LabelsAtLine.{label-owned}
use Rattle.ariadne_picture.proofs.Rows.RowNumbers.{start-last, row-in-group, row-at-number}
use Rattle.ariadne_picture.proofs.Rows.RowPlacing.{start_row}
use Rattle.ariadne_picture.proofs.Rows.RowsThere.{range-at}
use Rattle.ariadne_picture.proofs.Cells.CanvasRows.{row_cells}
use Rattle.ariadne_picture.proofs.Reading.InOrder.{increasing-filter, increasing-weaker, range-rises}
use Rattle.ariadne_picture.proofs.Reading.MessagePlaces.{two-true, label-here, every-message, message-place, arrow-shows}
use Rattle.ariadne_picture.proofs.Reading.PlaceCounts.{ArePlaced}
use Rattle.ariadne_picture.proofs.Reading.Pictures.{Picture, RowAt, rows_of, number, message_row, row-there}
use Rattle.ariadne_picture.proofs.Reading.Placed.{rows-placed}
use Rattle.ariadne_picture.proofs.Reading.ShownLine.{IsShownLine, IsArrowRow, arrow-at}
use Rattle.ariadne_picture.proofs.OneReading.LinesFound.{group-of}
use Rattle.ariadne_picture.proofs.OneReading.StrokesFound.{distinct-from}
use Rattle.ariadne_picture.proofs.ReadingBack.FirstCells.{IsFound}
use Rattle.ariadne_picture.proofs.ReadingBack.ToldWithin.{told-within}
use Rattle.ariadne_picture.proofs.ReadingBack.ToldOver.{told}

-- ---- lists

-- one function, or two one after the other
map-twice : {X Y : Type 0} (f : X → Y) (row : X → ℕ) (tell : ℕ → Y) (xs : List X) → AllByRecursion (λ x. f x ≡ tell (row x)) xs → map f xs ≡ map tell (map row xs)
map-twice f row tell [] a = refl
map-twice f row tell (x ∷ xs) a = λ i. a.0 i ∷ map-twice f row tell xs a.1 i

numbered-twice : {X Y : Type 0} (f : ℕ × X → Y) (row : X → ℕ) (tell : ℕ → Y) (n : ℕ) (xs : List X)
    → AllByRecursion (λ e. f e ≡ tell (row e.1)) (enumerate_from n xs) → map f (enumerate_from n xs) ≡ map tell (map row xs)
numbered-twice f row tell n [] a = refl
numbered-twice f row tell n (x ∷ xs) a = λ i. a.0 i ∷ numbered-twice f row tell (n + 1) xs a.1 i

-- ---- labels that have a message

-- those within one line, and those over several, have the same elements as all
group-labels : (s : Section) → IsPermutation (messages_of s) (filter is_on_one_line (messages_of s) ++ gutter_labels s.sheet.labels)
unfolding messages_of gutter_labels multi_line_labels
group-labels s =
    let one : LabelInfo → Bool = is_on_one_line in
    let several : LabelInfo → Bool = λ a. not (is_on_one_line a) in
    let some : LabelInfo → Bool = λ a. a.has_message in
    let within : List LabelInfo = filter one (filter some s.sheet.labels) in
    let less : LabelInfo → LabelInfo → Bool = λ a b. nat_lt (span_len b) (span_len a) in
    IsPermutation-trans (filter some s.sheet.labels) (within ++ filter several (filter some s.sheet.labels)) _
    (IsPermutation-filter_both one several (λ a. refl) (filter some s.sheet.labels))
    (IsPermutation-append_right within (filter several (filter some s.sheet.labels)) _
    (subst (λ xs. IsPermutation xs (gutter_labels s.sheet.labels)) (filter-twice some several s.sheet.labels) (filter-in_order some less (filter several s.sheet.labels))))

-- row y is the arrow row of a label of a line that is no start
pub record HasMessage (v : Picture) (g : ℕ) (s : Section) (y : Row) : Type 0 where
  pub line : ℕ
  pub rank : ℕ
  pub label : LineLabel
  pub arrow_row : IsArrowRow v g s line rank label
  pub no_start : is_start label.side ≡ false
  pub is : y ≡ arrow line rank

module _ (v : Picture) where
  -- ---- the rows of messages

  abbrev row : LabelInfo → ℕ
  row a = message_row v a.position

  abbrev labels : List LabelInfo
  labels = joined messages_of v.sections

  rows-differ : Increasing (λ (n m : ℕ). n ≢ m) (map row labels)
  unfolding is_placing
  rows-differ =
      subst (Increasing (λ (n m : ℕ). n ≢ m)) (sym (map-joined row messages_of v.sections)) (distinct-from _ (two-true _ _ (rows-placed v)).1)

  module _ (sources : List Known)
      (message_there : (g : ℕ) (s : Section) (l r : ℕ) (x : LineLabel) → IsArrowRow v g s l r x → is_start x.side ≡ false
      → has_message (rows_of v) sources v.texts.switches (number v g s (arrow l r)) ≡ true)
      (message_only : (g : ℕ) (s : Section) (k : ℕ) (y : Row) → RowAt v g s k y
      → has_message (rows_of v) sources v.texts.switches (number v g s y) ≡ true → HasMessage v g s y) where
    abbrev test : ℕ → Bool
    test = has_message (rows_of v) sources v.texts.switches

    abbrev found : List ℕ
    found = filter test (between 1 (length (rows_of v)))

    -- each row that has a message is that of a label
    only-labels : AllByRecursion (Has (map row labels)) found
    unfolding messages_of
    only-labels =
        all-filtered (Has (map row labels)) test _ (all-range _ 1 (length (rows_of v) - 1) (λ j less on.
        let n : ℕ = 1 + j in
        let last = start-last v.texts v.sections (row_cells v.palette v.texts v.width) v.header in
        let w = group-of v n (length v.sections) (omega arith) (omega arith) (omega (arith, last, less)) in
        let y = row-there v w.group n w.section w.there w.low w.high in
        let h = message_only w.group w.section y.0 y.1 y.2 (ap test y.3 ∙ on) in
        let owned = label-owned w.section.sheet h.line h.label (label-here w.section.sheet h.line h.rank h.label h.arrow_row.there) in
        let some = has-filter (λ (a : LabelInfo). a.has_message) w.section.sheet.labels owned.place h.label.info owned.there h.arrow_row.message in
        let all = has-joined messages_of v.sections w.group w.section h.label.info w.there some in
        let same : row h.label.info ≡ n = arrow-shows v h.arrow_row h.no_start ∙ ap (number v w.group w.section) (sym h.is) ∙ y.3 in
        subst (Has (map row labels)) same (has-map row labels all.place h.label.info all.there)))

    -- and each label has one
    all-labels : AllByRecursion (Has found) (map row labels)
    unfolding start_row
    all-labels =
        all-map (Has found) row labels (all-joined (λ a. Has found (row a)) (λ s. (g : ℕ) × (slice_get v.sections g ≡ Some s)) messages_of v.sections
        (λ s e. every-message v e.0 s _ e.1 (λ a m.
        let h = message-place v m in
        let is = arrow-at v h.arrow_row in
        let n : ℕ = row a in
        let on : test n ≡ true = ap test h.row ∙ message_there e.0 s a.end_line h.rank h.label h.arrow_row h.shows.no_start in
        let low = (row-in-group v.texts v.sections e.0 s _ _ is).0 in
        let high = slice_get_within (rows_of v) _ _ (row-at-number v.texts v.sections (row_cells v.palette v.texts v.width) v.header e.0 s _ _ is) in
        let same = h.row in
        let z : 1 + (n - 1) ≡ n = omega (arith, low, same) in
        has-filter test (between 1 (length (rows_of v))) (n - 1) n (range-at 1 (length (rows_of v) - 1) (n - 1) (omega (arith, high, same, low)) ∙ ap Some z) on))
        (all-from _ v.sections (λ g s e. (g, e))))

    rows-found : IsPermutation found (map row labels)
    rows-found =
        same-numbers found (map row labels)
        (increasing-filter _ test _ (increasing-weaker (λ n. Unit {0}) _ _ _ (λ n m a b less same. omega arith) (all-every (λ n. Unit {0}) (λ n. tt) _)
        (range-rises 1 (length (rows_of v) - 1)))) rows-differ only-labels all-labels

    -- ---- what they tell

    module _ (placed : ArePlaced v)
        (source_found : (g : ℕ) (s : Section) (l : ℕ) → IsShownLine v g s l → IsFound v sources g s l (source l))
        (arrow_found : (g : ℕ) (s : Section) (l r : ℕ) (x : LineLabel) → IsArrowRow v g s l r x → IsFound v sources g s l (arrow l r)) where
      abbrev tell : ℕ → Told
      tell = told_by (rows_of v) sources v.texts.switches

      abbrev in_groups : Section → List LabelInfo
      in_groups s = filter is_on_one_line (messages_of s) ++ gutter_labels s.sheet.labels

      group-told : (g : ℕ) (s : Section) → slice_get v.sections g ≡ Some s → group_told (message_at v.texts) g s ≡ map tell (map row (in_groups s))
      unfolding group_told
      group-told g s e =
          let within : List LabelInfo = filter is_on_one_line (messages_of s) in
          let over : List LabelInfo = gutter_labels s.sheet.labels in
          let first : map (told_within (message_at v.texts) g s) within ≡ map tell (map row within) =
          map-twice (told_within (message_at v.texts) g s) row tell within
          (all-filtered _ is_on_one_line (messages_of s) (every-message v g s _ e (λ a m one. sym (told-within v sources placed arrow_found m one)))) in
          let second : mapped_numbered (told_over (message_at v.texts) g s) over ≡ map tell (map row over) =
          numbered-twice (λ e. told_over (message_at v.texts) g s e.0 e.1) row tell 0 over
          (all-numbered _ over (λ i a owned. sym (told v sources placed source_found arrow_found (record { group = e; owned = owned })))) in
          (λ i. first i ++ second i) ∙ sym (map-append tell (map row within) (map row over)) ∙ ap (map tell) (sym (map-append row within over))

      groups-told : (n : ℕ) (ss : List Section) → AllByRecursion (λ e. slice_get v.sections e.0 ≡ Some e.1) (enumerate_from n ss)
          → joined (λ e. group_told (message_at v.texts) e.0 e.1) (enumerate_from n ss) ≡ map tell (map row (joined in_groups ss))
      unfolding joined
      groups-told n [] a = refl
      groups-told n (s ∷ ss) a =
          (λ i. group-told n s a.0 i ++ groups-told (n + 1) ss a.1 i)
          ∙ sym (map-append tell (map row (in_groups s)) (map row (joined in_groups ss)))
          ∙ ap (map tell) (sym (map-append row (in_groups s) (joined in_groups ss)))

      -- so the picture tells its labels
      pub told-back : IsPermutation (read_back (rows_of v) sources v.texts.switches) (labels_told (message_at v.texts) v.sections)
      unfolding read_back labels_told
      told-back =
          let all : List LabelInfo = joined in_groups v.sections in
          subst (IsPermutation (map tell found)) (sym (groups-told 0 v.sections (all-numbered _ v.sections (λ g s e. e))))
          (IsPermutation-map tell found (map row all)
          (IsPermutation-trans found (map row labels) (map row all) rows-found
          (IsPermutation-map row labels all (joined-permutation messages_of in_groups v.sections group-labels))))
