-- The line that a row shows or stands below, and the first cell of the text behind its gutter, are found from the
-- sources of the groups alone.
use Rattle.ariadne_picture.specs.ReadBack.Rows.{Known}
use Rattle.std.proofs.Common.{◌≡◌, ℕ, zero, suc, ◌+◌, ◌<◌, ◌⊎◌, Bool, true, false, List, [], length, Option, Some, None, refl, sym, ap, ◌∙◌}
use Rattle.std.proofs.Common.{arith}
use Rattle.std.specs.Prelude.{slice_get, find, decimal}
use Rattle.ariadne_picture.specs.declared.label_info.LineLabel.{LineLabel}
use Rattle.std.specs.List.{range_with_len}
use Rattle.std.proofs.lemmas.Bool.{cond-true, cond-false}
use Rattle.ariadne_base.specs.Listing.{listed_lines}
use Rattle.ariadne_picture.specs.declared.sight.Sight.{Sight}
use Rattle.ariadne_picture.specs.declared.switches.Switches.{Switches}
use Rattle.ariadne_picture.specs.Groups.{printed_number}
use Rattle.ariadne_picture.specs.Columns.{Layout, shown, sight_of, is_too_wide, sights_of}
use Rattle.ariadne_picture.specs.Pieces.{Section, gutter_len, source_pieces, seen_pieces}
use Rattle.ariadne_picture.specs.ReadBack.Reports.{HasWholeLines}
use Rattle.ariadne_picture.proofs.Cells.MarginTexts.{plain_cells}
use Rattle.ariadne_picture.proofs.Reading.Pictures.{Picture}

-- ---- the first number of a range that passes

pub find-range : (test : ℕ → Bool) (a n j : ℕ) → j < n → test (a + j) ≡ true → ((i : ℕ) → i < j → test (a + i) ≡ false)
    → find test (range_with_len a n) ≡ Some (a + j)
find-range test a zero j few on none = absurd (omega arith)
find-range test a (suc n) zero few on none =
    let z : a + 0 ≡ a = omega arith in cond-true (test a) (Some a) _ (ap test (sym z) ∙ on) ∙ ap Some (sym z)
find-range test a (suc n) (suc j) few on none =
    let z : a + 0 ≡ a = omega arith in
    let y : a + 1 + j ≡ a + suc j = omega arith in
    cond-false (test a) (Some a) (find test (range_with_len (a + 1) n)) (ap test (sym z) ∙ none 0 (omega arith))
    ∙ find-range test (a + 1) n j (omega arith) (ap test y ∙ on)
    (λ i less. let x : a + 1 + i ≡ a + suc i = omega arith in ap test x ∙ none (suc i) (omega arith))
    ∙ ap Some y

-- ---- the cells of a line that is shown whole hang on its text alone

-- what a line's cells are made of
abbrev bare : List ℕ → List Sight → Layout
bare text sights = record { margin = None; labels = []; offset = 0; text = text; sights = sights }

cells-bare : (switches : Switches) (y : Layout) → plain_cells switches y ≡ plain_cells switches (bare y.text y.sights)
unfolding shown source_pieces seen_pieces sight_of
cells-bare switches y = refl

pub cells-same : (switches : Switches) (y z : Layout) → y.text ≡ z.text → y.sights ≡ z.sights → plain_cells switches y ≡ plain_cells switches z
cells-same switches y z text sights =
    cells-bare switches y ∙ (λ i. plain_cells switches (bare (text i) (sights i))) ∙ sym (cells-bare switches z)

-- a text that is not cut has no list of what is seen, whatever its labels are
pub whole-sights : (switches : Switches) (o : ℕ) (xs : List LineLabel) (text : List ℕ) → is_too_wide switches text ≡ false
    → sights_of switches o xs text ≡ []
unfolding sights_of
whole-sights switches o xs text e = cond-false (is_too_wide switches text) _ [] e

-- ---- a picture over these sources

-- the number of the group's gutter columns is told, or no line of it is cut
abbrev pub TellsBegins : Section → Option ℕ → Type 0
TellsBegins s gutter = (gutter ≡ Some (gutter_len s.sheet)) ⊎ ((gutter ≡ None) × HasWholeLines s)

-- the sources of its groups, in their order
pub record AreSources (v : Picture) (sources : List Known) : Type 0 where
  pub there : (g : ℕ) (s : Section) → slice_get v.sections g ≡ Some s
      → (source : Known) × (slice_get sources g ≡ Some source) × (listed_lines source.listing ≡ s.sheet.lines)
      × (source.listing.display_offset ≡ s.display_offset) × TellsBegins s source.gutter

-- the numbers of a group's lines are printed apart
abbrev pub ArePrintedApart : Section → Type 0
ArePrintedApart s =
    (l m : ℕ) → l < length s.sheet.lines → m < length s.sheet.lines
    → decimal (printed_number s.display_offset l) ≡ decimal (printed_number s.display_offset m) → l ≡ m
