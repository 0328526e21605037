-- Whether a finished picture can be read by a placing, and the placing that the names of its rows give.
use Rattle.std.specs.Prelude.{ℕ, ◌+◌, Bool, not, ◌&&◌, ◌==◌, nat_lt, if◌then◌else◌, List, length, map, take, filter, slice_index_or, slice_get, None}
use Rattle.std.specs.Prelude.{Some}
use Rattle.std.specs.List.{enumerate_from}
use Rattle.ariadne_picture.specs.declared.label_info.LabelInfo.{LabelInfo}
use Rattle.ariadne_picture.specs.declared.label_info.LineLabel.{LineLabel}
use Rattle.ariadne_picture.specs.Lists.{joined, total}
use Rattle.ariadne_picture.specs.Ranks.{gutter_labels, line_labels, margin_label, is_of_gutter_label, is_start, group_lines}
use Rattle.ariadne_picture.specs.Rows.{Row, source, arrow, row_key, before, rows}
use Rattle.ariadne_picture.specs.Columns.{layout_of, arrow_len}
use Rattle.ariadne_picture.specs.Pieces.{Section, Texts, message_at}
use Rattle.ariadne_picture.specs.Canvas.{Cell}
use Rattle.ariadne_picture.specs.Placing.Rows.{Placing}
use Rattle.ariadne_picture.specs.Placing.Together.{is_placing}
use Rattle.ariadne_picture.specs.Placing.MessageRows.{has_message_rows}
use Rattle.ariadne_picture.specs.Placing.InlineTraces.{has_inline_traces}
use Rattle.ariadne_picture.specs.Placing.GutterEnds.{has_ends_of_gutter_traces}
use Rattle.ariadne_picture.specs.Placing.GutterBars.{has_gutter_bars}
use Rattle.ariadne_picture.specs.Placing.Alignment.{is_aligned}
use Rattle.ariadne_picture.specs.Blocks.{has_whole_blocks}
use Rattle.ariadne_picture.specs.Causes.{has_no_other_strokes}
use Rattle.ariadne_picture.specs.GutterCauses.{has_no_other_gutter_strokes}

-- all clauses of the tracing promise
unfoldable pub is_read : List (List Cell) → List Section → Texts → Placing → Bool
is_read cells parts t p =
    is_placing cells parts p && has_message_rows cells parts p (message_at t) && has_inline_traces cells parts p
    && has_ends_of_gutter_traces cells parts p && has_gutter_bars cells parts p && is_aligned cells parts p
    && has_whole_blocks parts p && has_no_other_strokes cells parts p && has_no_other_gutter_strokes cells parts p

-- ---- the parts of a row's key

-- which part of its group a row belongs to
abbrev pub row_part : Row → ℕ
row_part x = slice_index_or (row_key x) 0 0

-- its line, or the number of its help or note
abbrev pub row_line : Row → ℕ
row_line x = slice_index_or (row_key x) 1 0

-- which row of that line, help or note it is
abbrev pub row_step : Row → ℕ
row_step x = slice_index_or (row_key x) 2 0

-- ---- the groups of a picture, each with its rows by name

module _ (t : Texts) (ss : List Section) where
  unfoldable pub row_list : Section → List Row
  row_list s = rows s.sheet s.is_last t.helps t.notes

  unfoldable pub start_row : ℕ → ℕ
  start_row g = 1 + total (λ s. length (row_list s)) (take g ss)

  -- where row x stands in group g
  unfoldable pub row_number : ℕ → Section → Row → ℕ
  row_number g s x = start_row g + length (filter (λ y. before y x) (row_list s))

  unfoldable pub of_section : ℕ → (Section → ℕ) → ℕ
  of_section g f = elim (slice_get ss g) [ None ↦ 0 | Some s ↦ f s ]

  unfoldable pub block_len : Section → ℕ → ℕ
  block_len s l = length (filter (λ y. (row_part y == 2) && (row_line y == l) && nat_lt 0 (row_step y)) (row_list s))

  -- the rows of the line labels of line l that a test holds of
  unfoldable pub rows_of_labels : ℕ → Section → (LineLabel → Bool) → ℕ → List ℕ
  rows_of_labels g s test l =
      map (λ e. row_number g s (arrow l e.0)) (filter (λ e. test e.1) (enumerate_from 0 (line_labels s.sheet.labels l)))

  unfoldable pub message_rows : ℕ → List ℕ
  message_rows k =
      joined (λ e. joined (rows_of_labels e.0 e.1 (λ x. not (is_start x.side) && (x.info.position == k))) (group_lines e.1.sheet))
      (enumerate_from 0 ss)

  unfoldable pub first_row : ℕ → Section → ℕ → ℕ × LabelInfo → ℕ
  first_row g s i e =
      let l = e.1.start_line in
      if is_of_gutter_label (margin_label s.sheet.labels l) i then row_number g s (source l)
      else slice_index_or (rows_of_labels g s (λ x. is_start x.side && (x.gutter_column == i)) l) 0 0

  unfoldable pub row_placing : Placing
  row_placing = record {
    start = start_row;
    source_row = λ g l. of_section g (λ s. row_number g s (source l));
    block_len = λ g l. of_section g (λ s. block_len s l);
    places = λ g l. of_section g (λ s. arrow_len s.sheet.switches (layout_of s.sheet l));
    message_row = λ k. slice_index_or (message_rows k) 0 0;
    head_row = λ g i. of_section g (λ s. elim (slice_get (gutter_labels s.sheet.labels) i) [ None ↦ 0 | Some a ↦ first_row g s i (i, a) ]);
  }

unfoldable pub read_by_rows : Unit {0}
unfolding is_read row_list start_row row_number of_section block_len rows_of_labels message_rows first_row row_placing
read_by_rows = tt
