-- How many places the rows below a line have: enough for what its labels ask, where they lie within their source.
use Rattle.std.proofs.Common.{◌≡◌, ℕ, ◌+◌, ◌<◌, ◌≤◌, true, false, not, map, length, Some, sym, ap, ◌∙◌, arith, inl, inr, if◌then◌else◌}
use Rattle.std.specs.Prelude.{slice_get}
use Rattle.std.specs.List.{AllByRecursion, list_any}
use Rattle.std.proofs.lemmas.Bool.{cond_both, eqb-true}
use Rattle.ariadne_base.specs.Locations.{line_text}
use Rattle.ariadne_picture.specs.declared.switches.Switches.{Switches}
use Rattle.ariadne_picture.specs.declared.label_info.LineLabel.{LineLabel}
use Rattle.ariadne_picture.specs.Groups.{greatest}
use Rattle.ariadne_picture.specs.Ranks.{Sheet, is_inline, is_on_one_line, gutter_labels, line_labels}
use Rattle.ariadne_picture.specs.Columns.{Layout, layout_of, places_to_end, arrow_len}
use Rattle.ariadne_picture.specs.Pieces.{Section}
use Rattle.ariadne_picture.proofs.Labels.LabelPlaces.{IsPlaced, last-text, attach-before-end, start-place, end-place}
use Rattle.ariadne_picture.proofs.Lists.Elements.{list_any-true}
use Rattle.ariadne_picture.proofs.Labels.LabelsAtLine.{IsHere, IsInlineHere}
use Rattle.ariadne_picture.proofs.Lists.ListFacts.{all-at}
use Rattle.ariadne_picture.proofs.Rows.RowsThere.{all-gutter-labels, below-greatest, mapped}
use Rattle.ariadne_picture.proofs.Reading.Pictures.{Picture}

-- each label of each group is placed within the source of its group
abbrev pub ArePlaced : Picture → Type 0
ArePlaced v = (g : ℕ) (s : Section) → slice_get v.sections g ≡ Some s → AllByRecursion (IsPlaced s.sheet.lines) s.sheet.labels

module _ (switches : Switches) (y : Layout) (r : ℕ) (x : LineLabel) (e : slice_get y.labels r ≡ Some x) where
  -- where a label of several lines stands there are more places than the line has characters
  many-places : is_inline x.side ≡ false → length y.text < arrow_len switches y
  unfolding arrow_len
  many-places out =
      let several : list_any (λ (x : LineLabel). not (is_inline x.side)) y.labels ≡ true = list_any-true _ y.labels r x e (ap not out) in
      rw several (cond_both switches.compact 1 2 (λ n. length y.text < length y.text + n) (λ _. omega arith) (λ _. omega arith))

  -- else more than reach to each label's end
  inline-places : places_to_end y x ≤ length y.text → places_to_end y x < arrow_len switches y
  unfolding arrow_len
  inline-places h =
      let most : ℕ = greatest (map (places_to_end y) y.labels) in
      let some : places_to_end y x ≤ most =
      all-at (λ x. places_to_end y x ≤ most) y.labels r x e
      (mapped (λ n. n ≤ most) (places_to_end y) y.labels (below-greatest (map (places_to_end y) y.labels))) in
      let more : (m : ℕ) → places_to_end y x ≤ m → places_to_end y x < m + (if switches.compact then 1 else 2) =
      λ m less. cond_both switches.compact 1 2 (λ n. places_to_end y x < m + n) (λ _. omega arith) (λ _. omega arith) in
      cond_both (list_any (λ (x : LineLabel). not (is_inline x.side)) y.labels) (length y.text) most
      (λ m. places_to_end y x < m + (if switches.compact then 1 else 2)) (λ _. more _ h) (λ _. more most some)

module _ (s : Sheet) (placed : AllByRecursion (IsPlaced s.lines) s.labels) where
  -- a label within a line ends at a place of it
  pub inline-end : (l r : ℕ) (x : LineLabel) → slice_get (line_labels s.labels l) r ≡ Some x → IsInlineHere s l x
      → places_to_end (layout_of s l) x < arrow_len s.switches (layout_of s l)
  unfolding layout_of is_on_one_line places_to_end
  inline-end l r x e h =
      let a = all-at (IsPlaced s.lines) s.labels h.owned.place x.info h.owned.there placed in
      let one : x.info.end_line ≡ l = sym (eqb-true x.info.start_line x.info.end_line h.one_line) ∙ h.line in
      inline-places s.switches (layout_of s l) r x e
      (rw one at (last-text s.lines x.info a))

  -- where a label of several lines stands each place of the line's text is one
  text-place : (l r : ℕ) (x : LineLabel) → slice_get (line_labels s.labels l) r ≡ Some x → is_inline x.side ≡ false → (m : ℕ) → m ≡ l
      → x.place ≤ length (line_text s.lines m) → x.place < arrow_len s.switches (layout_of s l)
  unfolding layout_of
  text-place l r x e out m line place =
      let size = many-places s.switches (layout_of s l) r x e out in
      let column = rw line at place in
      omega (arith, size, column)

  -- so the column of each line label is a place
  pub column-place : (l r : ℕ) (x : LineLabel) → slice_get (line_labels s.labels l) r ≡ Some x → IsHere s l x
      → x.place < arrow_len s.switches (layout_of s l)
  unfolding layout_of is_inline places_to_end
  column-place l r x e (inl h) =
      let a = all-at (IsPlaced s.lines) (gutter_labels s.labels) x.gutter_column x.info h.owned (all-gutter-labels _ s placed) in
      text-place l r x e (ap is_inline h.side) x.info.start_line h.line (rw h.place (start-place s.lines x.info a))
  column-place l r x e (inr (inl h)) =
      let a = all-at (IsPlaced s.lines) (gutter_labels s.labels) x.gutter_column x.info h.owned (all-gutter-labels _ s placed) in
      text-place l r x e (ap is_inline h.side) x.info.end_line h.line (rw h.place (end-place s.lines x.info a))
  column-place l r x e (inr (inr h)) =
      let a = all-at (IsPlaced s.lines) s.labels h.owned.place x.info h.owned.there placed in
      let size = inline-end l r x e h in
      let place = h.place in
      let column = rw h.line at (attach-before-end s.lines x.info a) in
      omega (arith, size, place, column)
