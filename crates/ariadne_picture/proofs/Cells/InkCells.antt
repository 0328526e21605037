-- The cell that shows an ink, and which inks are seen in it: those of arrow rows and alternate rows where a
-- corner, a vertical or an underline is.
use Rattle.std.proofs.Common.{◌≡◌, ℕ, Bool, true, false, not, ◌&&◌, [], ◌∷◌, Option, Some, None, refl, ap, ◌∙◌, ◌==◌, inl, inr, ◌⊎◌}
use Rattle.std.proofs.lemmas.Bool.{cases_Bool}
use Rattle.ariadne_picture.specs.declared.switches.CharSet.{CharSet}
use Rattle.ariadne_picture.specs.declared.switches.CharSet.TheVariants.{Unicode, Ascii}
use Rattle.ariadne_picture.specs.declared.switches.Switches.{Switches}
use Rattle.ariadne_picture.specs.declared.cell.Glyph.{Glyph}
use Rattle.ariadne_picture.specs.declared.cell.Glyph.TheVariants.{Blank, Hbar, Xbar}
use Rattle.ariadne_picture.specs.declared.cell.Ink.{Ink}
use Rattle.ariadne_picture.specs.declared.cell.Paint.{Paint}
use Rattle.ariadne_picture.specs.declared.label_info.LineLabel.{LineLabel}
use Rattle.ariadne_picture.specs.declared.label_info.Side.{Side}
use Rattle.ariadne_picture.specs.declared.label_info.Side.TheVariants.{Inline, Starts, Ends}
use Rattle.ariadne_picture.specs.Ranks.{is_inline}
use Rattle.ariadne_picture.specs.Cells.{glyph_code, alternate_ink, arrow_ink, corner_glyph}
use Rattle.ariadne_picture.specs.Pieces.{Section, stroke, glyph_text}
use Rattle.ariadne_picture.specs.Canvas.{Cell, cell_of}
use Rattle.ariadne_picture.specs.Placing.Cells.{is_text, is_blank, is_glyph, is_level}
use Rattle.ariadne_picture.specs.Placing.Group.{set_of}
use Rattle.ariadne_picture.proofs.Lists.Elements.{left-true, right-true, pointwise-same}
use Rattle.ariadne_picture.proofs.Reading.Pictures.{Picture}
use Rattle.ariadne_picture.proofs.Parts.{arrow_ink_by}

-- the cell of a glyph in the text area or the gutter of a group, and the first cell of an ink
abbrev pub glyph_cell : Picture → Section → Glyph → Paint → Cell
glyph_cell v s glyph paint = cell_of v.palette (stroke (set_of s) glyph paint)

abbrev pub ink_cell : Picture → Section → Ink → Cell
ink_cell v s ink = glyph_cell v s ink.first ink.first_paint

-- a glyph is level
abbrev pub IsLevel : Glyph → Type 0
IsLevel glyph = (glyph ≡ Hbar) ⊎ (glyph ≡ Xbar)

-- a glyph that is no blank has another text, by its code in each character set
seen-glyph : (set : CharSet) (glyph : Glyph) → (glyph ≡ Blank → ⊥) → is_text (glyph_text set glyph) (32 ∷ []) ≡ false
unfolding glyph_text glyph_code lib.Utf8.encode
seen-glyph set Blank h = absurd (h refl)
seen-glyph Unicode glyph h = refl
seen-glyph Ascii glyph h = refl

module _ (v : Picture) (s : Section) (glyph : Glyph) (paint : Paint) where
  -- a cell has the text of its glyph
  pub shows-glyph : {shown : Glyph} → glyph ≡ shown → is_glyph (set_of s) shown (glyph_cell v s glyph paint) ≡ true
  unfolding is_glyph
  shows-glyph {shown} e = ap (λ glyph. is_glyph (set_of s) shown (glyph_cell v s glyph paint)) e ∙ pointwise-same (glyph_text (set_of s) shown)

  -- so a level glyph is level there
  pub shows-level : IsLevel glyph → is_level (set_of s) (glyph_cell v s glyph paint) ≡ true
  unfolding is_level
  shows-level (inl e) = left-true _ _ (shows-glyph e)
  shows-level (inr e) = right-true _ _ (shows-glyph e)

  -- and no glyph but the blank is blank
  pub shows-something : (glyph ≡ Blank → ⊥) → not (is_blank (glyph_cell v s glyph paint)) ≡ true
  shows-something h = ap not (seen-glyph (set_of s) glyph h)

  -- a blank is one
  pub shows-blank : glyph ≡ Blank → is_blank (glyph_cell v s glyph paint) ≡ true
  unfolding glyph_text glyph_code lib.Utf8.encode
  shows-blank e = ap (λ glyph. is_blank (glyph_cell v s glyph paint)) e ∙ of_set (set_of s)
    where
      of_set : (set : CharSet) → is_blank (cell_of v.palette (stroke set Blank paint)) ≡ true
      of_set Unicode = refl
      of_set Ascii = refl

-- ---- inks

-- the horizontal of an arrow row is level off its corner: crossed, or with a gap in the vertical
pub level-ink : (switches : Switches) (r : ℕ) (x : LineLabel) (v : Option LineLabel) → IsLevel (arrow_ink_by switches r x false true v).first
unfolding arrow_ink
level-ink switches r x None = inl refl
level-ink switches r x (Some v) = elim (cases_Bool switches.cross_gap) [ inl gap ↦ inl (rw gap refl) | inr cross ↦ inr (rw cross refl) ]

-- a corner is no blank
corner-seen : (side : Side) → corner_glyph side ≡ Blank → ⊥
unfolding corner_glyph
corner-seen Inline e = cc
corner-seen Starts e = cc
corner-seen Ends e = cc

-- where a vertical is, an arrow row has a corner, a horizontal, an arrow head or the vertical
pub arrow-seen : (switches : Switches) (r : ℕ) (x : LineLabel) (corner horizontal : Bool) (v : LineLabel)
    → (arrow_ink_by switches r x corner horizontal (Some v)).first ≡ Blank → ⊥
unfolding arrow_ink
arrow-seen switches r x true horizontal v e = corner-seen x.side e
arrow-seen switches r x false true v e = elim (cases_Bool switches.cross_gap) [
  | inl gap ↦ let z = rw gap at e in cc
  | inr cross ↦ let z = rw cross at e in cc
]
arrow-seen switches r x false false v e = elim (cases_Bool (not (is_inline v.side) && (r == 0) && switches.compact)) [
  | inl up ↦ let z = rw up at e in cc
  | inr on ↦ let z = rw on at e in cc
]

-- there an alternate row has an underline, an arrow head or the vertical
pub alternate-seen : (heads : Bool) (r : ℕ) (v : LineLabel) (u : Option LineLabel)
    → (alternate_ink heads r (Some v) u).first ≡ Blank → ⊥
unfolding alternate_ink
alternate-seen heads r v (Some u) e = cc
alternate-seen heads r v None e = elim (cases_Bool (not (is_inline v.side) && (r == 0) && heads)) [
  | inl up ↦ let z = rw up at e in cc
  | inr on ↦ let z = rw on at e in cc
]

-- and where an underline is, that or a tee
pub underline-seen : (heads : Bool) (r : ℕ) (v : Option LineLabel) (u : LineLabel)
    → (alternate_ink heads r v (Some u)).first ≡ Blank → ⊥
unfolding alternate_ink
underline-seen heads r (Some v) u e = cc
underline-seen heads r None u e = cc
