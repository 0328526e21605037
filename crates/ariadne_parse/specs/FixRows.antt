-- Rows that tell programs what to put where, as clang and gcc write them with -fdiagnostics-parseable-fixits:
-- fix-it:"FILE":{LINE:COLUMN-LINE:COLUMN}:"TEXT". Columns count bytes from 1, and the second span is that behind
-- what is replaced. 34 is `"`, and 58 `:`.
use Rattle.std.specs.Prelude.{ℕ, List, codes, Option, option_and_then, option_map}
use Rattle.ariadne_parse.specs.Heads.{range_in}
use Rattle.ariadne_parse.specs.TextPieces.{behind, behind_text, in_front_of, split_once}
use Rattle.ariadne_parse.specs.declared.diagnostic.Location.{Location}
use Rattle.ariadne_parse.specs.declared.fix_rows.FixRow.{FixRow as FixPieces}

-- what such a row tells
pub record FixRow : Type 0 where
  pub file : List ℕ
  pub start : Location
  pub end : Location
  pub text : List ℕ

-- that its pieces are
abbrev pub fix_row_parsed : FixPieces → FixRow
fix_row_parsed row = record { file = row.file.now; start = row.start; end = row.end; text = row.text.now }

-- the file in quotes, and what stands behind it
unfoldable pub file_in : List ℕ → Option (List ℕ × List ℕ)
file_in line =
    option_and_then (split_once 34) (option_and_then (behind 34) (behind_text (codes "fix-it:") line))

-- the range behind a colon, and what stands behind it
unfoldable pub span_in : List ℕ → Option (Location × Location × List ℕ)
span_in text = option_and_then range_in (behind 58 text)

-- the text in quotes behind a colon
unfoldable pub text_in : List ℕ → Option (List ℕ)
text_in text = option_and_then (in_front_of 34) (option_and_then (behind 34) (behind 58 text))

-- what a line tells that is such a row
unfoldable pub fix_row_in : List ℕ → Option FixRow
fix_row_in line =
    option_and_then
    (λ file.
    option_and_then
    (λ range.
    option_map (λ text. record { file = file.0; start = range.0; end = range.1; text = text }) (text_in range.2))
    (span_in file.1))
    (file_in line)
