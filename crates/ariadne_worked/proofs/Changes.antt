-- Finished pictures that are changed by hand, and the verdicts of all clauses on them. Rows and cells count from 0.
use Rattle.std.specs.Prelude.{ℕ, ◌+◌, ◌-◌, ◌==◌, Bool, true, false, if◌then◌else◌, [], ◌∷◌, ◌++◌, Some, None, List, take, drop, slice_set, slice_index_or}
use Rattle.std.specs.List.{list_all}
use Prim.Native.String.{String}
use Rattle.ariadne_color.specs.declared.color.Color.TheVariants.{Blue}
use Rattle.ariadne_picture.specs.Report.{ReportFields}
use Rattle.ariadne_picture.specs.Canvas.{Cell, texts_of}
use Rattle.ariadne_picture.specs.Placing.Cells.{no_cell}
use Rattle.ariadne_picture.specs.Placing.Rows.{Placing}
use Rattle.ariadne_picture.specs.Placing.Together.{is_placing}
use Rattle.ariadne_picture.specs.Placing.MessageRows.{has_message_rows}
use Rattle.ariadne_picture.specs.Placing.InlineTraces.{has_inline_traces}
use Rattle.ariadne_picture.specs.Placing.GutterEnds.{has_ends_of_gutter_traces}
use Rattle.ariadne_picture.specs.Placing.GutterBars.{has_gutter_bars}
use Rattle.ariadne_picture.specs.Placing.Alignment.{is_aligned}
use Rattle.ariadne_picture.specs.Blocks.{has_whole_blocks}
use Rattle.ariadne_picture.specs.Causes.{has_no_other_strokes}
use Rattle.ariadne_picture.specs.GutterCauses.{has_no_other_gutter_strokes}
use Rattle.ariadne_picture.specs.Pieces.{message_at}
use Rattle.ariadne_picture.proofs.Rows.RowPlacing.{row_placing}
use Rattle.ariadne_worked.proofs.Sample.{Span, Entry, utf8, nameless, silent_label_in, drawn}
use Rattle.ariadne_worked.proofs.Readings.{infos, cells_of, parts_of}

-- ---- rows that are changed

abbrev pub Rows : Type 0
Rows = List (List Cell)

-- no change
unfoldable pub as_drawn : Rows → Rows
as_drawn rows = rows

-- row n, changed
unfoldable pub on_row : ℕ → (List Cell → List Cell) → Rows → Rows
on_row n change rows = slice_set rows n (change (slice_index_or rows n []))

-- cell c, changed
unfoldable pub on_cell : ℕ → (Cell → Cell) → List Cell → List Cell
on_cell c change row = slice_set row c (change (slice_index_or row c no_cell))

-- cell c of row n shows this text
unfoldable pub shows : ℕ → ℕ → String → Rows → Rows
shows n c t = on_row n (on_cell c (λ (cell : Cell). record cell { text = utf8 t }))

-- cell c of row n has a colour
unfoldable pub is_blue : ℕ → ℕ → Rows → Rows
is_blue n c = on_row n (on_cell c (λ (cell : Cell). record cell { color = Some Blue }))

-- cell c of row n takes so many columns
unfoldable pub takes : ℕ → ℕ → ℕ → Rows → Rows
takes n c columns = on_row n (on_cell c (λ (cell : Cell). record cell { columns = columns }))

-- a plain cell of one column
unfoldable pub plain : String → Cell
plain t = record { text = utf8 t; color = None; columns = 1 }

-- ---- verdicts

-- placed, message rows, inline traces, ends of gutter traces, gutter bars, alignment
unfoldable pub verdicts_by : Placing → List Entry → ReportFields Span → (Rows → Rows) → List Bool
verdicts_by p entries r change =
    let cells = change (cells_of entries r) in
    let parts = parts_of entries r in
    is_placing cells parts p ∷ has_message_rows cells parts p (message_at (texts_of r)) ∷ has_inline_traces cells parts p
    ∷ has_ends_of_gutter_traces cells parts p ∷ has_gutter_bars cells parts p ∷ is_aligned cells parts p ∷ []

-- by the placing that the names of the rows give
unfoldable pub verdicts : List Entry → ReportFields Span → (Rows → Rows) → List Bool
verdicts entries r = verdicts_by (row_placing (texts_of r) (parts_of entries r)) entries r

abbrev pub all_hold : List Bool
all_hold = true ∷ true ∷ true ∷ true ∷ true ∷ true ∷ []

-- the one clause that fails
abbrev pub not_placed : List Bool
not_placed = false ∷ true ∷ true ∷ true ∷ true ∷ true ∷ []

abbrev pub no_message_rows : List Bool
no_message_rows = true ∷ false ∷ true ∷ true ∷ true ∷ true ∷ []

abbrev pub no_inline_traces : List Bool
no_inline_traces = true ∷ true ∷ false ∷ true ∷ true ∷ true ∷ []

abbrev pub no_ends : List Bool
no_ends = true ∷ true ∷ true ∷ false ∷ true ∷ true ∷ []

abbrev pub no_bars : List Bool
no_bars = true ∷ true ∷ true ∷ true ∷ false ∷ true ∷ []

abbrev pub not_aligned : List Bool
not_aligned = true ∷ true ∷ true ∷ true ∷ true ∷ false ∷ []

-- whether these six all hold; whole blocks, and no other strokes
unfoldable pub further_verdicts_by : Placing → List Entry → ReportFields Span → (Rows → Rows) → List Bool
further_verdicts_by p entries r change =
    let parts = parts_of entries r in
    list_all (λ b. b) (verdicts_by p entries r change) ∷ has_whole_blocks parts p
    ∷ has_no_other_strokes (change (cells_of entries r)) parts p ∷ []

unfoldable pub further_verdicts : List Entry → ReportFields Span → (Rows → Rows) → List Bool
further_verdicts entries r = further_verdicts_by (row_placing (texts_of r) (parts_of entries r)) entries r

-- whether all these hold; and no other strokes in the gutter
unfoldable pub gutter_verdicts : List Entry → ReportFields Span → (Rows → Rows) → List Bool
gutter_verdicts entries r change =
    let parts = parts_of entries r in
    list_all (λ b. b) (further_verdicts entries r change)
    ∷ has_no_other_gutter_strokes (change (cells_of entries r)) parts (row_placing (texts_of r) parts) ∷ []

-- ---- the same behind a group of one line, over a source of its own, that takes four rows

unfoldable pub sources_behind : List Entry → List Entry
sources_behind entries = entries ++ nameless "front" "f" ∷ []

unfoldable pub report_behind : ReportFields Span → ReportFields Span
report_behind r = record r { labels = silent_label_in "front" 0 1 ∷ r.labels }

-- rows and labels that have these numbers without it
unfoldable pub placing_behind : Placing → Placing
placing_behind p = record {
  start = λ g. if g == 0 then 1 else p.start (g - 1) + 4;
  source_row = λ g l. if g == 0 then 3 else p.source_row (g - 1) l + 4;
  block_len = λ g l. if g == 0 then 0 else p.block_len (g - 1) l;
  places = λ g l. if g == 0 then 0 else p.places (g - 1) l;
  message_row = λ k. p.message_row (k - 1) + 4;
  head_row = λ g i. p.head_row (g - 1) i + 4;
}

-- a change of rows that have these numbers without it
unfoldable pub change_behind : (Rows → Rows) → Rows → Rows
change_behind change rows = take 4 rows ++ change (drop 4 rows)

unfoldable pub verdicts_behind_by : Placing → List Entry → ReportFields Span → (Rows → Rows) → List Bool
verdicts_behind_by p entries r change = verdicts_by (placing_behind p) (sources_behind entries) (report_behind r) (change_behind change)

unfoldable pub verdicts_behind : List Entry → ReportFields Span → (Rows → Rows) → List Bool
verdicts_behind entries r change = verdicts (sources_behind entries) (report_behind r) (change_behind change)

unfoldable pub further_verdicts_behind : List Entry → ReportFields Span → (Rows → Rows) → List Bool
further_verdicts_behind entries r change = further_verdicts (sources_behind entries) (report_behind r) (change_behind change)

unfoldable pub gutter_verdicts_behind : List Entry → ReportFields Span → (Rows → Rows) → List Bool
gutter_verdicts_behind entries r change = gutter_verdicts (sources_behind entries) (report_behind r) (change_behind change)

-- `unfolding judged` lets `refl` compute them
unfoldable pub judged : Unit {0}
unfolding drawn infos cells_of parts_of as_drawn on_row on_cell shows is_blue takes plain verdicts_by verdicts further_verdicts_by further_verdicts
    sources_behind report_behind placing_behind change_behind verdicts_behind_by verdicts_behind further_verdicts_behind gutter_verdicts
    gutter_verdicts_behind
judged = tt
