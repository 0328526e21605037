-- What the definitions show at a place of an alternate or arrow row is what the table of its line tells.
use Rattle.std.proofs.Common.{◌≡◌, ℕ, ◌<◌, ◌≤◌, Bool, true, false, not, ◌&&◌, cond, Option, Some, None, refl, sym, ap, ◌∙◌, subst, arith, ◌⊎◌, inl, inr}
use Rattle.std.specs.Prelude.{◌==◌, nat_lt, option_map, if◌then◌else◌}
use Rattle.std.proofs.lemmas.Bool.{ne_eqb, eq-eqb, true≢false, lt-ltb, le-ltb, le-leb, lt-leb, leb-true, ltb_from_iff, and_right}
use Rattle.std.proofs.Math.Bool.{and_assoc, and_comm}
use Rattle.ariadne_picture.specs.declared.cell.Glyph.TheVariants.{Blank, Hbar, Vbar, Uarrow}
use Rattle.ariadne_picture.specs.declared.cell.Paint.{Paint}
use Rattle.ariadne_picture.specs.declared.label_info.LineLabel.{LineLabel}
use Rattle.ariadne_picture.specs.declared.label_info.Side.{Side}
use Rattle.ariadne_picture.specs.declared.label_info.Side.TheVariants.{Inline, Starts, Ends}
use Rattle.ariadne_picture.specs.declared.switches.Switches.{Switches}
use Rattle.ariadne_picture.specs.Lists.{best}
use Rattle.ariadne_picture.specs.Columns.{Layout}
use Rattle.ariadne_picture.specs.Ranks.{is_inline, is_margin, is_of_gutter_label}
use Rattle.ariadne_picture.specs.Strokes.{is_crossed, is_preferred, underline_at, underline_row, underlines_at, vertical_at, spot_of}
use Rattle.ariadne_picture.specs.Cells.{alternate_ink, alternate_place, arrow_ink, arrow_place, corner_glyph, ink, ink_of, paint_of}
use Rattle.ariadne_picture.proofs.Parts.{has_corner, arrow_ink_by}
use Rattle.ariadne_layout.specs.declared.table.LineTable.{LineTable}
use Rattle.ariadne_layout.specs.declared.verticals.Vertical.{Vertical}
use Rattle.ariadne_layout.specs.Tables.{IsTable, seen_vertical, shown_at, vertical_of, position_of}
use Rattle.ariadne_render.specs.declared.area.Backdrop.{Backdrop}
use Rattle.ariadne_render.specs.declared.area.Backdrop.TheVariants.{Level}
use Rattle.ariadne_render.specs.Areas.{alternate_backdrop, backdrop_before, backdrop_behind, level_of, open_beside, seen_ink, underlined_ink, underlined_or}

-- ---- horizontals

-- a vertical with a gap is not seen where it is crossed
pub level_hides : (backdrop : Backdrop) (position : ℕ) (cross_gap : Bool) → backdrop ≡ Level position cross_gap → cross_gap ≡ true
    → (v : Option Vertical) → seen_ink backdrop v ≡ seen_ink backdrop None
unfolding seen_ink
level_hides backdrop position cross_gap is on v =
    let same : backdrop ≡ Level position true = is ∙ ap (Level position) on in
    subst (λ (o : Backdrop). seen_ink o v ≡ seen_ink o None) (sym same) (whole v)
  where
    whole : (v : Option Vertical) → seen_ink (Level position true) v ≡ seen_ink (Level position true) None
    whole None = refl
    whole (Some v) = refl

-- ---- alternate rows

-- an arrow or a bar, all in one colour
head_alone : (b : Bool) (p : Paint) → (if b then ink Uarrow p Blank p else ink Vbar p Blank p) ≡ ink (if b then Uarrow else Vbar) p Blank p
head_alone true p = refl
head_alone false p = refl

-- tests in another order
and_turned : (a b c : Bool) → (a && b && c) ≡ (b && c && a)
and_turned a b c = and_assoc a b c ∙ and_comm a (b && c)

-- by what is seen there
alternate_seen : (heads : Bool) (r : ℕ) (v u : Option LineLabel)
    → alternate_ink heads r v u ≡ seen_ink (underlined_or (alternate_backdrop heads r) (option_map position_of u)) (option_map vertical_of v)
unfolding alternate_ink seen_ink underlined_or alternate_backdrop
alternate_seen heads r (Some v) (Some u) = refl
alternate_seen heads r (Some v) None =
    let p : Paint = paint_of v.info in
    let outer : Bool = not (is_inline v.side) in
    head_alone (outer && (r == 0) && heads) p
    ∙ ap (λ b. ink (if b then Uarrow else Vbar) p Blank p) (and_turned outer (r == 0) heads)
alternate_seen heads r None (Some u) = refl
alternate_seen heads r None None = refl

-- by the vertical of the table
alternate_at : (heads : Bool) (s : Switches) (y : Layout) (r : ℕ) (table : LineTable) → IsTable s y r table → (k : ℕ)
    → alternate_place heads s y r k
    ≡ seen_ink (underlined_or (alternate_backdrop heads r) (option_map position_of (underline_at s y r k))) (seen_vertical table.verticals k)
unfolding alternate_place
alternate_at heads s y r table t k =
    alternate_seen heads r (vertical_at y r k) (underline_at s y r k)
    ∙ ap (seen_ink (underlined_or (alternate_backdrop heads r) (option_map position_of (underline_at s y r k)))) (sym (t.verticals k))

-- in the row that has the underlines, by that of the table
pub underlined_at : (heads : Bool) (s : Switches) (y : Layout) (r : ℕ) (table : LineTable) → IsTable s y r table → s.compact ≡ false
    → r ≡ underline_row y → (k : ℕ) → k < table.len → alternate_place heads s y r k ≡ underlined_ink table (alternate_backdrop heads r) k
unfolding underlined_ink
underlined_at heads s y r table t off e k h =
    let under : option_map position_of (underline_at s y r k) ≡ shown_at table.underlines.items k =
    ap (λ n. option_map position_of (underline_at s y n k)) e ∙ sym (t.underlines off k h) in
    alternate_at heads s y r table t k
    ∙ ap (λ o. seen_ink (underlined_or (alternate_backdrop heads r) o) (seen_vertical table.verticals k)) under

-- no other row has underlines
not_underlined : (s : Switches) (y : Layout) (r k : ℕ) → (r ≡ underline_row y → ⊥) → underline_at s y r k ≡ None
unfolding underline_at
not_underlined s y r k n = ap (λ b. cond b (best (λ a b. is_preferred a.info b.info) (underlines_at y k)) None)
    (and_right s.underlines (r == underline_row y) (ne_eqb r (underline_row y) n))

-- so it shows verticals alone
pub plain_at : (heads : Bool) (s : Switches) (y : Layout) (r : ℕ) (table : LineTable) → IsTable s y r table → (r ≡ underline_row y → ⊥) → (k : ℕ)
    → alternate_place heads s y r k ≡ seen_ink (alternate_backdrop heads r) (seen_vertical table.verticals k)
unfolding underlined_or
plain_at heads s y r table t n k =
    alternate_at heads s y r table t k
    ∙ ap (λ (o : Option LineLabel). seen_ink (underlined_or (alternate_backdrop heads r) (option_map position_of o)) (seen_vertical table.verticals k))
    (not_underlined s y r k n)

-- ---- arrow rows

-- a place of the horizontal
level_seen : (s : Switches) (r : ℕ) (x : LineLabel) (v : Option LineLabel)
    → arrow_ink_by s r x false true v ≡ seen_ink (level_of s x) (option_map vertical_of v)
unfolding arrow_ink seen_ink
level_seen s r x (Some v) = refl
level_seen s r x None = refl

-- a place beside it
open_seen : (s : Switches) (r : ℕ) (x : LineLabel) (v : Option LineLabel)
    → arrow_ink_by s r x false false v ≡ seen_ink (open_beside s r x) (option_map vertical_of v)
unfolding arrow_ink seen_ink
open_seen s r x (Some v) =
    ap (λ b. ink (if b then Uarrow else Vbar) (paint_of v.info) Blank (paint_of x.info))
    (and_turned (not (is_inline v.side)) (r == 0) s.compact)
open_seen s r x None = refl

-- ---- before and behind the own place of label x

module _ (s : Switches) (r : ℕ) (x : LineLabel) (v : Option LineLabel) where
  -- before it
  before_seen : (side : Side) (place k : ℕ) → k < place
      → arrow_ink_by s r x false (is_crossed side place k) v ≡ seen_ink (backdrop_before s r x side) (option_map vertical_of v)
  unfolding is_crossed backdrop_before
  before_seen Inline place k h = ap (λ b. arrow_ink_by s r x false b v) (le-ltb place k (omega arith)) ∙ open_seen s r x v
  before_seen Starts place k h = ap (λ b. arrow_ink_by s r x false b v) (le-leb k place (omega arith)) ∙ level_seen s r x v
  before_seen Ends place k h = level_seen s r x v

  -- behind it
  behind_seen : (side : Side) (place k : ℕ) → place < k
      → arrow_ink_by s r x false (is_crossed side place k) v ≡ seen_ink (backdrop_behind s r x side) (option_map vertical_of v)
  unfolding is_crossed backdrop_behind
  behind_seen Inline place k h = ap (λ b. arrow_ink_by s r x false b v) (lt-ltb place k h) ∙ level_seen s r x v
  behind_seen Starts place k h = ap (λ b. arrow_ink_by s r x false b v) (lt-leb k place h) ∙ open_seen s r x v
  behind_seen Ends place k h = level_seen s r x v

  -- where it crosses, if it does not lie within the line
  crossed_seen : (side : Side) (place k : ℕ) → is_inline side ≡ false → is_crossed side place k ≡ true
      → arrow_ink_by s r x false (is_crossed side place k) v ≡ seen_ink (backdrop_before s r x side) (option_map vertical_of v)
  unfolding is_crossed backdrop_before is_inline
  crossed_seen Inline place k i h = absurd (true≢false i)
  crossed_seen Starts place k i h = ap (λ b. arrow_ink_by s r x false b v) h ∙ level_seen s r x v
  crossed_seen Ends place k i h = level_seen s r x v

  -- and where it does not
  uncrossed_seen : (side : Side) (place k : ℕ) → is_inline side ≡ false → is_crossed side place k ≡ false
      → arrow_ink_by s r x false (is_crossed side place k) v ≡ seen_ink (backdrop_behind s r x side) (option_map vertical_of v)
  unfolding is_crossed backdrop_behind is_inline
  uncrossed_seen Inline place k i h = absurd (true≢false i)
  uncrossed_seen Starts place k i h = ap (λ b. arrow_ink_by s r x false b v) h ∙ open_seen s r x v
  uncrossed_seen Ends place k i h = absurd (true≢false h)

-- ---- the end of a horizontal

-- that of a start covers the places up to its own
pub crossed_from_start : (side : Side) (place k end : ℕ) → side ≡ Starts → (k ≤ place → k < end) → (k < end → k ≤ place)
    → is_crossed side place k ≡ nat_lt k end
unfolding is_crossed
crossed_from_start side place k end e to from =
    ap (λ a. is_crossed a place k) e ∙ ltb_from_iff ((λ t. to (leb-true k place t)), (λ h. le-leb k place (from h)))

-- that of an end covers all places
pub crossed_to_end : (side : Side) (place k : ℕ) → (side ≡ Inline) ⊎ (side ≡ Ends) → is_inline side ≡ false → is_crossed side place k ≡ true
unfolding is_crossed is_inline
crossed_to_end side place k e i = elim e [
  | inl inside ↦ absurd (true≢false (sym (ap is_inline inside) ∙ i))
  | inr ends ↦ ap (λ a. is_crossed a place k) ends
]

-- ---- corners

-- at its own place alone
no_corner : (margin : Option LineLabel) (x : LineLabel) (k : ℕ) → (x.place ≡ k → ⊥) → has_corner margin x k ≡ false
no_corner margin x k n = ap (λ b. b && not (is_margin margin x)) (ne_eqb x.place k n)

-- not of the margin label
no_margin_corner : (margin : Option LineLabel) (x : LineLabel) (k : ℕ) → is_margin margin x ≡ true → has_corner margin x k ≡ false
no_margin_corner margin x k m = and_right (x.place == k) (not (is_margin margin x)) (ap not m)

-- of any other
corner_there : (margin : Option LineLabel) (x : LineLabel) → is_margin margin x ≡ false → has_corner margin x x.place ≡ true
corner_there margin x m = λ i. eq-eqb x.place x.place refl i && not (m i)

-- the margin label does not lie within the line
pub margin_side : (margin : Option LineLabel) (x : LineLabel) → is_margin margin x ≡ true → is_inline x.side ≡ false
unfolding is_margin
margin_side margin x m = outer (is_inline x.side) (is_of_gutter_label margin x.gutter_column) m
  where
    outer : (b c : Bool) → (not b && c) ≡ true → b ≡ false
    outer true c e = absurd (true≢false (sym e))
    outer false c e = refl

-- ---- the places of an arrow row, by the table

module _ (s : Switches) (y : Layout) (r : ℕ) (table : LineTable) (t : IsTable s y r table) (x : LineLabel) where
  -- a place without corner
  arrow_at : (k : ℕ) → has_corner y.margin x k ≡ false
      → arrow_place s y r (Some x) k ≡ arrow_ink_by s r x false (is_crossed x.side x.place k) (vertical_at y r k)
  unfolding arrow_place spot_of
  arrow_at k n = ap (λ b. arrow_ink_by s r x b (is_crossed x.side x.place k) (vertical_at y r k)) n

  -- before the own place
  pub arrow_before : (k : ℕ) → k < x.place → arrow_place s y r (Some x) k ≡ seen_ink (backdrop_before s r x x.side) (seen_vertical table.verticals k)
  arrow_before k h =
      arrow_at k (no_corner y.margin x k (λ e. omega arith)) ∙ before_seen s r x (vertical_at y r k) x.side x.place k h
      ∙ ap (seen_ink (backdrop_before s r x x.side)) (sym (t.verticals k))

  -- the own place
  pub arrow_own : is_margin y.margin x ≡ false → arrow_place s y r (Some x) x.place ≡ ink_of (corner_glyph x.side) Hbar x.info
  unfolding arrow_place spot_of arrow_ink
  arrow_own m = ap (λ b. arrow_ink_by s r x b (is_crossed x.side x.place x.place) (vertical_at y r x.place)) (corner_there y.margin x m)

  -- behind it
  pub arrow_behind : (k : ℕ) → x.place < k → arrow_place s y r (Some x) k ≡ seen_ink (backdrop_behind s r x x.side) (seen_vertical table.verticals k)
  arrow_behind k h =
      arrow_at k (no_corner y.margin x k (λ e. omega arith)) ∙ behind_seen s r x (vertical_at y r k) x.side x.place k h
      ∙ ap (seen_ink (backdrop_behind s r x x.side)) (sym (t.verticals k))

  -- where the margin label crosses
  pub margin_crossed : is_margin y.margin x ≡ true → (k : ℕ) → is_crossed x.side x.place k ≡ true
      → arrow_place s y r (Some x) k ≡ seen_ink (backdrop_before s r x x.side) (seen_vertical table.verticals k)
  margin_crossed m k h =
      arrow_at k (no_margin_corner y.margin x k m)
      ∙ crossed_seen s r x (vertical_at y r k) x.side x.place k (margin_side y.margin x m) h
      ∙ ap (seen_ink (backdrop_before s r x x.side)) (sym (t.verticals k))

  -- and where it does not
  pub margin_uncrossed : is_margin y.margin x ≡ true → (k : ℕ) → is_crossed x.side x.place k ≡ false
      → arrow_place s y r (Some x) k ≡ seen_ink (backdrop_behind s r x x.side) (seen_vertical table.verticals k)
  margin_uncrossed m k h =
      arrow_at k (no_margin_corner y.margin x k m)
      ∙ uncrossed_seen s r x (vertical_at y r k) x.side x.place k (margin_side y.margin x m) h
      ∙ ap (seen_ink (backdrop_behind s r x x.side)) (sym (t.verticals k))
