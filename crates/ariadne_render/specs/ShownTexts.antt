-- The text of a source row, whose characters have any colours.
use Rattle.std.specs.Prelude.{ℕ, ◌≡◌, ◌<◌, ◌≤◌, List, [], ◌∷◌, Some, drop, encode_utf8, length, slice_get, slice_index}
use Rattle.ariadne_base.specs.Locations.{upto}
use Rattle.ariadne_picture.specs.declared.cell.Paint.{Paint}
use Rattle.ariadne_picture.specs.declared.switches.CharSet.{CharSet}
use Rattle.ariadne_picture.specs.declared.switches.Switches.{Switches}
use Rattle.ariadne_picture.specs.Lists.{joined}
use Rattle.ariadne_picture.specs.Columns.{Layout, shown, mark_columns}
use Rattle.ariadne_picture.specs.Pieces.{Piece, mark_text, source_pieces, shown_text}
use Rattle.ariadne_layout.specs.Tables.{position_paint, shown_at}
use Rattle.ariadne_layout.specs.declared.stretches.Stretch.{Stretch}

-- a character that is written as it is: it is no tab, and its own bytes are shown
abbrev pub IsAsShown : ℕ → Type 0
IsAsShown c = (c ≡ 9 → ⊥) × (shown_text c ≡ encode_utf8 c)

-- a blank of a tab
abbrev pub blank_of : Paint → Piece
blank_of paint = record { text = 32 ∷ []; paint = paint; columns = 1 }

-- the mark in place of what is cut
abbrev pub mark_of : CharSet → Paint → Piece
mark_of set paint = record { text = mark_text set; paint = paint; columns = mark_columns set }

-- place k, in the colour of `paint k`
unfoldable pub place_in : Switches → Layout → (ℕ → Paint) → ℕ → List Piece
place_in switches y paint k = source_pieces switches (paint k) y k (slice_index (shown y) k)

-- all places
unfoldable pub shown_in : Switches → Layout → (ℕ → Paint) → List Piece
shown_in switches y paint = joined (place_in switches y paint) (upto (length (shown y)))

-- ---- stretches of places in one colour

-- from a place on two lists of stretches show the same labels
abbrev pub ShowAlikeFrom : ℕ → List Stretch → List Stretch → Type 0
ShowAlikeFrom place xs ys = (k : ℕ) → place ≤ k → shown_at xs k ≡ shown_at ys k

-- up to the end of this stretch, where those before it have ended, its places have this colour
abbrev pub IsPaintOf : List Stretch → ℕ → Paint → Type 0
IsPaintOf paints number paint =
    (k : ℕ) → ((s : Stretch) → slice_get paints number ≡ Some s → k < s.end)
    → paint ≡ position_paint (shown_at (drop number paints) k)
