-- The bytes of margins: text after text.
use Rattle.std.proofs.Common.{◌≡◌, ℕ, ◌+◌, ◌-◌, Bool, true, false, if◌then◌else◌, List, [], ◌∷◌, ◌++◌, length, decimal, codes, sym, ap, ◌∙◌}
use Rattle.std.proofs.Common.{append_assoc}
use Rattle.ariadne_color.specs.Escapes.{opened, closed}
use Rattle.ariadne_picture.specs.declared.switches.Switches.{Switches}
use Rattle.ariadne_picture.specs.declared.cell.Glyph.TheVariants.{Vbar, VbarGap}
use Rattle.ariadne_picture.specs.declared.cell.Paint.{Paint}
use Rattle.ariadne_picture.specs.declared.cell.Paint.TheVariants.{Margin, SkippedMargin}
use Rattle.ariadne_picture.specs.Canvas.{Palette, color_of}
use Rattle.ariadne_picture.specs.Groups.{printed_number}
use Rattle.ariadne_picture.specs.Rows.{Row, bare, gap, source}
use Rattle.ariadne_picture.specs.Pieces.{blank_piece, glyph_text, margin_paint, margin_pieces, margin_text, spaces}
use Rattle.ariadne_picture.specs.Print.{pieces_bytes}
use Rattle.ariadne_render.proofs.Bytes.{blank_first, blank_one, painted_parts, pieces_bytes_first, pieces_bytes_none, spaces_more}

-- the blank behind a margin; compact pictures have none
end_bytes : (p : Palette) (compact : Bool) → pieces_bytes p (if compact then [] else blank_piece ∷ []) ≡ (if compact then [] else 32 ∷ [])
end_bytes p true = pieces_bytes_none p
end_bytes p false = blank_one p

-- ---- the bytes as they are written

-- a text between what opens and what closes its colour, with a blank on each side
abbrev pub bordered : Palette → Switches → Paint → List ℕ → List ℕ
bordered p s paint text = (32 ∷ []) ++ (opened (color_of p paint) ++ text ++ closed (color_of p paint) ++ (if s.compact then [] else 32 ∷ []))

-- a margin is its text, so bordered
pub margin_bytes : (p : Palette) (s : Switches) (w display_offset : ℕ) (x : Row)
    → pieces_bytes p (margin_pieces s w display_offset x) ≡ bordered p s (margin_paint x) (margin_text s.char_set w display_offset x)
unfolding margin_pieces
margin_bytes p s w display_offset x =
    let text = margin_text s.char_set w display_offset x in
    let color = color_of p (margin_paint x) in
    blank_first p _ ∙ ap (λ t. (32 ∷ []) ++ t) (pieces_bytes_first p (record { text = text; paint = margin_paint x; columns = w + 2 }) _
    ∙ (λ i. painted_parts color text i ++ end_bytes p s.compact i))

-- the margin of a row without a number, with this bar
abbrev pub barred : Palette → Switches → ℕ → List ℕ → List ℕ
barred p s w bar = bordered p s SkippedMargin (spaces w ++ (32 ∷ bar))

-- that of a line with this number
abbrev pub numbered : Palette → Switches → ℕ → ℕ → List ℕ
numbered p s w number = bordered p s Margin (spaces (w - length (decimal number)) ++ decimal number ++ codes " " ++ glyph_text s.char_set Vbar)

-- one more blank stands in front of a bar
spaced : (w : ℕ) (bar : List ℕ) → spaces (w + 1) ++ bar ≡ spaces w ++ (32 ∷ bar)
spaced w bar = ap (λ t. t ++ bar) (sym (spaces_more w)) ∙ append_assoc (spaces w) (32 ∷ []) bar

-- the margin below a line
pub bare_bytes : (p : Palette) (s : Switches) (w : ℕ) → pieces_bytes p (margin_pieces s w 0 (bare 0)) ≡ barred p s w (glyph_text s.char_set Vbar)
unfolding margin_text margin_paint
bare_bytes p s w = margin_bytes p s w 0 (bare 0) ∙ ap (bordered p s SkippedMargin) (spaced w (glyph_text s.char_set Vbar))

-- that in place of hidden lines
pub gap_bytes : (p : Palette) (s : Switches) (w : ℕ) → pieces_bytes p (margin_pieces s w 0 (gap 0)) ≡ barred p s w (glyph_text s.char_set VbarGap)
unfolding margin_text margin_paint
gap_bytes p s w = margin_bytes p s w 0 (gap 0) ∙ ap (bordered p s SkippedMargin) (spaced w (glyph_text s.char_set VbarGap))

-- that of a source row
pub line_bytes : (p : Palette) (s : Switches) (w number display_offset l : ℕ) → number ≡ printed_number display_offset l
    → pieces_bytes p (margin_pieces s w display_offset (source l)) ≡ numbered p s w number
unfolding margin_text margin_paint
line_bytes p s w number display_offset l e = margin_bytes p s w display_offset (source l) ∙ ap (numbered p s w) (sym e)
