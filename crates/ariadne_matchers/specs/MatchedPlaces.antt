-- Where a diagnostic stands in the text of its file. Lines and columns count from 1, and columns count characters;
-- those that the tool told are columns of its own, turned into characters by the line of the file.
use Rattle.std.specs.Prelude.{ℕ, ◌+◌, ◌-◌, ◌^◌, min, nat_lt, if◌then◌else◌, List}
use Rattle.std.specs.Prelude.{Option, Some, None, option_and_then, option_map}
use Rattle.ariadne_parse.specs.Columns.{line_of}
use Rattle.ariadne_matchers.specs.QuotedMarks.{marked_at, marks_told}
use Rattle.ariadne_matchers.specs.Measures.{passed_from}
use Rattle.ariadne_matchers.specs.declared.marks.Marks.{Marks}
use Rattle.ariadne_matchers.specs.declared.measure.Measure.{Measure}
use Rattle.ariadne_matchers.specs.declared.placed.Placed.{Placed}
use Rattle.ariadne_matchers.specs.declared.matched.Begin.{Begin}
use Rattle.ariadne_matchers.specs.declared.matched.Begin.TheVariants.{Column, Marked, Line}
use Rattle.ariadne_matchers.specs.declared.matched.End.{End}
use Rattle.ariadne_matchers.specs.declared.matched.Matched.{Matched}

-- the character of a line at a column from 0; one past the line is its end
abbrev pub character_at : Measure → List ℕ → ℕ → ℕ
character_at measure line column = passed_from measure column 0 line + 1

-- the column from 0 at which a diagnostic begins: as it is told, or where its marks stand
abbrev pub begin_of : Begin → Option Marks → Measure → List ℕ → Option ℕ
begin_of (Column column) marks measure line = Some (column - 1)
begin_of Marked marks measure line = option_and_then (λ it. marked_at measure (marks_told it) line) marks
begin_of Line marks measure line = None

abbrev pub begin_in : Matched → Measure → List ℕ → Option ℕ
begin_in matched measure line = begin_of matched.begin matched.marks measure line

-- an end that is told, if the text has its line
abbrev pub end_in : Measure → End → List ℕ → End
end_in measure end line =
    record { line = end.line; column = option_map (λ column. character_at measure line (column - 1)) end.column }

unfoldable pub named_end : Measure → List ℕ → End → Option End
named_end measure text end = option_map (end_in measure end) (line_of text end.line)

-- the end behind marks, if there is more than one
abbrev pub end_behind : Matched → Measure → List ℕ → ℕ → Marks → Option End
end_behind matched measure line column marks =
    if nat_lt marks.count 2 then None
    else Some (record {
      line = matched.line;
      column = Some (character_at measure line (min (column + marks.count) (2 ^ 64 - 1)));
    })

abbrev pub end_of_marks : Matched → Measure → List ℕ → ℕ → Option End
end_of_marks matched measure line column = option_and_then (end_behind matched measure line column) matched.marks

-- where it ends: as it is told, or behind the marks
abbrev pub end_for : Option End → Matched → Measure → List ℕ → List ℕ → Option ℕ → Option End
end_for None matched measure text line column = option_and_then (end_of_marks matched measure line) column
end_for (Some end) matched measure text line column = named_end measure text end

abbrev pub place_end : Matched → Measure → List ℕ → List ℕ → Option ℕ → Option End
place_end matched measure text line column = end_for matched.end matched measure text line column

-- where it stands in a line of a text
abbrev pub placed_on : Matched → Measure → List ℕ → List ℕ → Placed
placed_on matched measure text line = record {
  line = matched.line;
  column = option_map (character_at measure line) (begin_in matched measure line);
  end = place_end matched measure text line (begin_in matched measure line);
}

-- where it stands in a text, if that has its line
unfoldable pub placed_in : Matched → Measure → List ℕ → Option Placed
placed_in matched measure text = option_map (placed_on matched measure text) (line_of text matched.line)
