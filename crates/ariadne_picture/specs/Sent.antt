-- What a finished picture is as it is sent: a cell takes the columns of its text, and a row of cells
-- is a line of what is sent.
use Rattle.std.specs.Prelude.{ℕ, ◌≡◌, true, not, ◌==◌, List, [], ◌∷◌, ◌++◌, map, IfSome}
use Rattle.std.specs.List.{list_all, AllByRecursion, slice_split}
use Rattle.ariadne_picture.specs.Lists.{joined}
use Rattle.ariadne_picture.specs.Report.{ReportFields, World}
use Rattle.ariadne_picture.specs.Columns.{text_columns}
use Rattle.ariadne_picture.specs.Canvas.{Cell, kind_name}
use Rattle.ariadne_picture.specs.Print.{printed, unescaped}

-- ---- columns

-- a cell takes the columns of the characters of its text
abbrev pub HasColumnsOfText : Cell → Type 0
HasColumnsOfText c = c.columns ≡ text_columns c.text

-- so does each cell of these rows
abbrev pub HaveColumnsOfTexts : List (List Cell) → Type 0
HaveColumnsOfTexts rows = AllByRecursion (AllByRecursion HasColumnsOfText) rows

-- ---- lines

-- the texts of a row's cells, one behind the other
unfoldable pub row_text : List Cell → List ℕ
row_text cells = joined (λ c. c.text) cells

-- bytes cut at each line feed
abbrev pub lines_sent : List ℕ → List (List ℕ)
lines_sent bytes = slice_split (λ b. b == 10) bytes

-- what is sent of these rows, without escape sequences, is the text of each as a line, and nothing
-- behind the last line feed
abbrev pub RowsAreLines : List (List Cell) → Type 0
RowsAreLines rows = lines_sent (unescaped (printed rows)) ≡ map row_text rows ++ [] ∷ []

-- a text without line feed
abbrev pub HasNoLineFeed : List ℕ → Type 0
HasNoLineFeed text = list_all (λ b. not (b == 10)) text ≡ true

-- no text that a row shows whole has one. Sources, helps and notes may: they are cut into lines
pub record HaveNoLineFeeds {S Id : Type 0} (w : World S Id) (r : ReportFields S) : Type 0 where
  pub kind : HasNoLineFeed (kind_name r.kind)
  pub code : IfSome r.code HasNoLineFeed
  pub message : IfSome r.message HasNoLineFeed
  pub labels : AllByRecursion (λ label. IfSome label.message HasNoLineFeed) r.labels
  pub names : AllByRecursion (λ label. IfSome (w.name_of (w.id_of label.span)) HasNoLineFeed)
      r.labels
