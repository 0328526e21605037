-- How many columns a row may take, and the text of a line in it: what `--width`, the environment and the
-- output say of the one, and what the margin of a report leaves for the other.
use Rattle.std.specs.Prelude.{ℕ, ◌≡◌, ◌-◌, ◌<◌, ◌==◌, max, Bool, true, false, if◌then◌else◌, List, []}
use Rattle.std.specs.Prelude.{option_map, string_bytes}
use Rattle.std.specs.declared.ops.Range.{Range}
use Rattle.ariadne.specs.Report.{ReportFields}
use Rattle.ariadne_safe.specs.SafeReports.{HasMarginOver}
use Rattle.ariadne_safe.specs.declared.sources.SafeSource.{SafeSource}
use Rattle.ariadne_show.specs.OptionMeanings.{IsCountIn}
use Rattle.ariadne_show.specs.declared.environment.Environment.{Environment}
use Rattle.ariadne_show.specs.declared.options.Width.{Width}
use Rattle.ariadne_show.specs.declared.options.Width.TheVariants.{Auto, Full, Columns}

-- how many columns a row may take: `--width` says it, or else `COLUMNS` where the output is a terminal; 0,
-- which is any number, where that says none
abbrev pub IsRowWidth : Width → Environment → Bool → ℕ → Type 0
IsRowWidth Full env is_terminal n = n ≡ 0
IsRowWidth (Columns columns) env is_terminal n = n ≡ columns
IsRowWidth Auto env false n = n ≡ 0
IsRowWidth Auto env true n = IsCountIn (option_map string_bytes env.columns) n

-- the columns of a row without those of a margin, but at least one; 0 is any number of both
abbrev pub text_width : ℕ → ℕ → ℕ
text_width columns margin = if columns == 0 then 0 else max (columns - margin) 1

-- where rows may take so many columns, the text of a line may take those that the margin of the report
-- leaves
abbrev pub IsTextWidth : ℕ → List SafeSource → ReportFields (ℕ × Range ℕ) → ℕ → Type 0
IsTextWidth columns sources report width =
    (margin : ℕ) × (0 < columns → HasMarginOver sources report margin)
    × (width ≡ text_width columns margin)

-- a report as it is before it has a width, helps and notes, none of which its margin hangs on
abbrev pub without_rows : ReportFields (ℕ × Range ℕ) → ReportFields (ℕ × Range ℕ)
without_rows report = record report {
  notes = [];
  helps = [];
  config = record report.config { width = 0 };
}
