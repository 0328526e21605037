-- What a cell of a picture shows.
use Rattle.std.specs.Prelude.{ℕ, Bool, ◌||◌, List, [], ◌∷◌, None, nat_eq}
use Rattle.std.specs.Cmp.Lexicographic.{pointwise}
use Rattle.ariadne_picture.specs.declared.switches.CharSet.{CharSet}
use Rattle.ariadne_picture.specs.declared.cell.Glyph.{Glyph}
use Rattle.ariadne_picture.specs.declared.cell.Glyph.TheVariants.{Hbar, Xbar}
use Rattle.ariadne_picture.specs.Pieces.{glyph_text}
use Rattle.ariadne_picture.specs.Canvas.{Cell}

-- what stands where a row has no cell
abbrev pub no_cell : Cell
no_cell = record { text = []; color = None; columns = 0 }

-- two texts are the same
abbrev pub is_text : List ℕ → List ℕ → Bool
is_text a b = pointwise nat_eq a b

-- a cell shows one blank, in a colour or in none
abbrev pub is_blank : Cell → Bool
is_blank c = is_text c.text (32 ∷ [])

-- a cell shows this stroke
unfoldable pub is_glyph : CharSet → Glyph → Cell → Bool
is_glyph set glyph c = is_text c.text (glyph_text set glyph)

-- a cell shows a horizontal, crossed or not
unfoldable pub is_level : CharSet → Cell → Bool
is_level set c = is_glyph set Hbar c || is_glyph set Xbar c
