-- The page and the texts that a row is drawn with, the lines of helps and notes, and the rows of a snippet
-- by their names.
use Rattle.std.specs.Prelude.{map}
use Rattle.std.specs.Prelude.{ℕ, zero, suc, ◌≡◌, ◌+◌, List, [], ◌∷◌, ◌++◌, Option, Some, None, codes, decimal, length}
use Rattle.ariadne_picture.specs.Pieces.{Piece, row_pieces, Texts, Section, painted_text, plain_text, spaces}
use Rattle.ariadne_picture.specs.Rows.{Row}
use Rattle.ariadne_picture.specs.declared.cell.Paint.TheVariants.{Note}
use Rattle.ariadne_layout.specs.Snippets.{SnippetFields}
use Rattle.ariadne_render.specs.Pages.{PageFields}

-- the texts and the group of a picture that is drawn on this page
pub record IsOnPage (t : Texts) (g : Section) (page : PageFields) : Type 0 where
  pub texts : t.switches ≡ page.switches
  pub sheet : g.sheet.switches ≡ page.switches

-- the number of a help or a note behind its word, if it has one
unfoldable pub aside_number : Option ℕ → List ℕ
aside_number None = []
aside_number (Some n) = codes " " ++ decimal n

-- the word and the number
unfoldable pub prefix_text : List ℕ → Option ℕ → List ℕ
prefix_text word number = word ++ aside_number number

-- line number p of a help or a note: the first stands behind its word, any other below the first
unfoldable pub told_pieces : List ℕ → Option ℕ → ℕ → List ℕ → List Piece
told_pieces word number zero line =
    painted_text Note (prefix_text word number) ∷ plain_text (codes ": " ++ line) ∷ []
told_pieces word number (suc p) line =
    plain_text (spaces (length (prefix_text word number) + 2) ++ line) ∷ []

-- ---- rows of a snippet

-- those of these names
abbrev pub rows_of : PageFields → SnippetFields → List Row → List (List Piece)
rows_of page v rows = map (row_pieces v.texts page.number_width v.section) rows

-- that of this name
abbrev pub row_of : PageFields → SnippetFields → Row → List Piece
row_of page v row = row_pieces v.texts page.number_width v.section row
