-- How a finished picture is read. A placing says which of its rows belong together. With it each
-- clause of the tracing promise is a test of the canvas alone. It reads row numbers, cell texts and
-- columns, and what the labels are, but no row name and no stroke. Rows, cells, lines and
-- places count from 0.
--
-- A picture of the lines aa, bb and cc, by its rows, and below it the last digits of its cells. Row 3
-- is the source row of line 0, and rows 4 and 5 are its block. Gutter label 0 has its head in row 3 and
-- its message in row 11, in column 0, which begins at cell 3; gutter label 1 in rows 5 and 8, at cell
-- 5. Arrow heads stand at cell 7, and the text begins at cell 9. In row 8 five places and a blank
-- stand before the message.
--
--      0  Error:
--      1     ,-[ <unknown>:1:1 ]
--      2     |
--      3   1 | ,---> aa
--      4     | |      ^
--      5     | | ,----'
--      6   2 | | |-> bb
--      7     | | |
--      8     | | `-------- mid
--      9   3 | |---> cc
--     10     | |
--     11     | `--------- all
--     12  ---'
--   cell  01  23456789012345
pub mod Cells
pub mod Group
pub mod Rows
pub mod Together
pub mod MessageRows
pub mod InlineTraces
pub mod GutterEnds
pub mod GutterBars
pub mod Alignment
-- the row numbers, and the clauses
pub use Rattle.ariadne_picture.specs.Placing.Rows.{Placing}
pub use Rattle.ariadne_picture.specs.Placing.Together.{is_placing}
pub use Rattle.ariadne_picture.specs.Placing.MessageRows.{has_message_rows}
pub use Rattle.ariadne_picture.specs.Placing.InlineTraces.{has_inline_traces}
pub use Rattle.ariadne_picture.specs.Placing.GutterEnds.{has_ends_of_gutter_traces}
pub use Rattle.ariadne_picture.specs.Placing.GutterBars.{has_gutter_bars}
pub use Rattle.ariadne_picture.specs.Placing.Alignment.{is_aligned}
