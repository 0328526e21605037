-- What is sent: the bytes of a canvas, row by row, each cell in its colour. And what is left of a
-- canvas, or of its bytes, where the colours are taken away.
use Rattle.std.specs.Prelude.{ℕ, zero, suc, ◌+◌, ◌-◌, Bool, ◌&&◌, ◌||◌, ◌==◌, nat_le, if◌then◌else◌}
use Rattle.std.specs.Prelude.{List, [], ◌∷◌, ◌++◌, map, slice_index, None}
use Rattle.std.specs.List.{prefix_len}
use Rattle.ariadne_color.specs.Colors.{painted}
use Rattle.ariadne_picture.specs.Lists.{joined}
use Rattle.ariadne_picture.specs.Pieces.{Piece}
use Rattle.ariadne_picture.specs.Canvas.{Cell, Palette, cell_of}

-- a cell's text in its colour
unfoldable pub cell_bytes : Cell → List ℕ
cell_bytes c = painted c.color c.text

-- a row of cells, and a line feed
unfoldable pub line_bytes : List Cell → List ℕ
line_bytes cells = joined cell_bytes cells ++ 10 ∷ []

-- all rows
unfoldable pub printed : List (List Cell) → List ℕ
printed canvas = joined line_bytes canvas

-- ---- rows of pieces, in the colours of a palette

-- the bytes of a part of a row
unfoldable pub pieces_bytes : Palette → List Piece → List ℕ
pieces_bytes palette pieces = joined cell_bytes (map (cell_of palette) pieces)

-- those of a row, which ends in a line feed
unfoldable pub row_bytes : Palette → List Piece → List ℕ
row_bytes palette pieces = pieces_bytes palette pieces ++ 10 ∷ []

-- those of some rows: what is printed of a picture is made of them
unfoldable pub rows_bytes : Palette → List (List Piece) → List ℕ
rows_bytes palette rows = joined (row_bytes palette) rows

-- ---- erasure

-- a canvas without its colours
abbrev pub erased : List (List Cell) → List (List Cell)
erased canvas = map (map (λ (c : Cell). record c { color = None })) canvas

-- a digit or a semicolon
unfoldable pub is_parameter : ℕ → Bool
is_parameter b = (nat_le 48 b && nat_le b 57) || (b == 59)

-- the length of the escape sequence that some bytes begin with, ESC [ parameters m, or 0
unfoldable pub sequence_len : List ℕ → ℕ
sequence_len (a ∷ b ∷ rest) =
    let n = prefix_len is_parameter rest in
    if (a == 27) && (b == 91) && (slice_index rest n == 109) then n + 3 else 0
sequence_len rest = 0

-- the bytes that stand outside of every such sequence, after the first n
unfoldable pub unescaped_after : ℕ → List ℕ → List ℕ
unescaped_after n [] = []
unescaped_after (suc n) (b ∷ rest) = unescaped_after n rest
unescaped_after zero (b ∷ rest) =
    let n = sequence_len (b ∷ rest) in
    if n == 0 then b ∷ unescaped_after 0 rest else unescaped_after (n - 1) rest

-- bytes without their escape sequences
unfoldable pub unescaped : List ℕ → List ℕ
unescaped bytes = unescaped_after 0 bytes
