-- What all rows of a picture share, and the pen that writes them: its text only grows.
use Rattle.std.specs.Prelude.{ℕ, ◌≡◌, List, ◌++◌}
use Rattle.ariadne_picture.specs.declared.switches.Switches.{Switches}
use Rattle.ariadne_picture.specs.Pieces.{Piece}
use Rattle.ariadne_picture.specs.Canvas.{Palette}
use Rattle.ariadne_picture.specs.Print.{pieces_bytes, row_bytes, rows_bytes}

-- the colours and the switches of a picture, and how many columns its line numbers take
pub record PageFields : Type 0 where
  pub palette : Palette
  pub switches : Switches
  pub number_width : ℕ

-- a pen: the page that it writes on, and the bytes that are written so far
pub record PenFields : Type 0 where
  pub page : PageFields
  pub bytes : List ℕ

-- ---- what a call has written: all else of the pen is as it was

-- these bytes
abbrev pub Adds : PenFields → PenFields → List ℕ → Type 0
Adds old new bytes = new ≡ record old { bytes = old.bytes ++ bytes }

-- these pieces, in the colours of the page
abbrev pub Draws : PenFields → PenFields → List Piece → Type 0
Draws old new pieces = Adds old new (pieces_bytes old.page.palette pieces)

-- a whole row of these pieces
abbrev pub DrawsRow : PenFields → PenFields → List Piece → Type 0
DrawsRow old new pieces = Adds old new (row_bytes old.page.palette pieces)

-- whole rows
abbrev pub DrawsRows : PenFields → PenFields → List (List Piece) → Type 0
DrawsRows old new rows = Adds old new (rows_bytes old.page.palette rows)
