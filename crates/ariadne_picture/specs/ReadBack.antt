-- A picture is read back: from its rows, the sources of its groups in their order, and the switches alone,
-- without any label. Each message row tells a message, and the line and the column, or the two ends, that
-- strokes lead to from there. The columns are those of the line's text, where a place without a cell can't
-- be told from the next one. Headers tell the code and the kind, the message, and what sources are called.
--
-- The picture at the head of `Placing`, over one source, tells: in row 8 the message mid, of which strokes
-- lead to column 1 of line 0, and to line 1; in row 11 the message all, of which they lead to lines 0
-- and 2.
pub mod Rows
pub mod Answer
pub mod Labels
pub mod Reports
pub use Rattle.ariadne_picture.specs.ReadBack.Answer.{End, Told, read_back, read_headers}
pub use Rattle.ariadne_picture.specs.ReadBack.Labels.{headers_told, labels_told}
pub use Rattle.ariadne_picture.specs.ReadBack.Reports.{HaveShortNumbers, HasWholeLines, HaveWholeLines, group_sources}
pub use Rattle.ariadne_picture.specs.ReadBack.Reports.{group_sources_and_gutters, IsReadBack, IsReadBackByGutters}
