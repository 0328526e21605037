-- A pen and a gutter as the rows of a snippet are written with them: what a call has written, and which
-- bars stand in the row that is written next.
use Rattle.std.specs.Prelude.{ℕ, ◌≡◌, List}
use Rattle.ariadne_picture.specs.Pieces.{Piece}
use Rattle.ariadne_picture.specs.Ranks.{multi_line_labels}
use Rattle.ariadne_picture.specs.Rows.{Row}
use Rattle.ariadne_layout.specs.Tables.{ArePaints, IsTable}
use Rattle.ariadne_layout.specs.declared.stretches.Stretch.{Stretch}
use Rattle.ariadne_layout.specs.declared.table.LineTable.{LineTable}
use Rattle.ariadne_layout.specs.Snippets.{IsSnippet, LineFields, SnippetFields, layout_at, sheet_at, sheet_in}
use Rattle.ariadne_render.specs.Pages.{DrawsRow, DrawsRows}
use Rattle.ariadne_render.specs.declared.writer.Writer.{Writer}
use Rattle.ariadne_render.specs.Gutters.{IsBelow, IsBeside, IsOfSheet}
use Rattle.ariadne_render.specs.RowTexts.{row_of, rows_of}

-- ---- what a call has written

-- a whole row of these pieces; the bars stand as they did
pub record WritesRow (old new : Writer) (row : List Piece) : Type 0 where
  pub drawn : DrawsRow old.pen new.pen row
  pub bars : new.gutter ≡ old.gutter

-- whole rows
pub record WritesRows (old new : Writer) (rows : List (List Piece)) : Type 0 where
  pub drawn : DrawsRows old.pen new.pen rows
  pub bars : new.gutter ≡ old.gutter

-- the row of this name of a snippet
abbrev pub WritesRowOf : SnippetFields → Row → Writer → Writer → Type 0
WritesRowOf v row old new = WritesRow old new (row_of old.pen.page v row)

-- the rows of these names
abbrev pub WritesRowsOf : SnippetFields → List Row → Writer → Writer → Type 0
WritesRowsOf v rows old new = WritesRows old new (rows_of old.pen.page v rows)

-- the pen has; the bars may be others
abbrev pub DrawsRowsOf : SnippetFields → List Row → Writer → Writer → Type 0
DrawsRowsOf v rows old new = DrawsRows old.pen new.pen (rows_of old.pen.page v rows)

-- ---- how far the rows of a snippet are written

-- those above line l: pen and gutter are of one page, and the bars beside the line stand
pub record IsBesideAt (v : SnippetFields) (l : ℕ) (w : Writer) : Type 0 where
  pub is_snippet : IsSnippet v
  pub one_page : w.gutter.page ≡ w.pen.page
  pub bars : IsBeside (sheet_in v) l w.gutter

-- those of a line above the rows of rank r: the bars beside these stand
pub record IsBelowAt (v : LineFields) (r : ℕ) (w : Writer) : Type 0 where
  pub is_snippet : IsSnippet v.snippet
  pub one_page : w.gutter.page ≡ w.pen.page
  pub bars : IsBelow (sheet_at v) v.line r w.gutter

-- so they do, and the table is that of these rows
pub record IsAtRank (v : LineFields) (r : ℕ) (w : Writer) (table : LineTable) : Type 0 where
  pub below : IsBelowAt v r w
  pub is_table : IsTable w.pen.page.switches (layout_at v) r table

-- those of all its lines: the gutter has the columns of its labels
pub record IsBehind (v : SnippetFields) (w : Writer) : Type 0 where
  pub is_snippet : IsSnippet v
  pub one_page : w.gutter.page ≡ w.pen.page
  pub gutter : IsOfSheet (sheet_in v) w.gutter

-- ---- the colours of a line

-- these are the labels that colour its characters
abbrev pub ArePaintsAt : LineFields → List Stretch → Type 0
ArePaintsAt v paints = ArePaints (multi_line_labels (sheet_at v).labels) (layout_at v) paints
