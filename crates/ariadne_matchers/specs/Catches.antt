-- What a row catches of a line, by the names of its groups. A comma stands as its number, 44.
use Rattle.std.specs.Prelude.{ℕ, zero, suc, ◌==◌, List, take}
use Rattle.std.specs.Prelude.{Option, Some, option_and_then, option_map}
use Rattle.std.specs.List.{slice_get, slice_range, slice_split}
use Rattle.std.specs.Option.{option_or}
use Rattle.regex.specs.Patterns.{Match, Re, find_str, span}
use Rattle.regex.specs.Writes.{group_of}
use Rattle.ariadne_matchers.specs.declared.caught.Caught.{Caught}
use Rattle.ariadne_matchers.specs.declared.caught.Piece.{Piece}
use Rattle.ariadne_matchers.specs.declared.entry.Groups.{Groups}

-- a text in a line, and what stands in front of it there
pub record Cut : Type 0 where
  pub front : List ℕ
  pub text : List ℕ

-- a line, and the texts in it that groups caught
pub record Catch : Type 0 where
  pub row : List ℕ
  pub file : Option Cut
  pub line : Option Cut
  pub column : Option Cut
  pub end_line : Option Cut
  pub end_column : Option Cut
  pub severity : Option Cut
  pub code : Option Cut
  pub message : Option Cut
  pub quoted : Option Cut
  pub marks : Option Cut

-- ---- what is held of them

abbrev pub cut_told : Piece → Cut
cut_told piece = record { front = piece.front.now; text = piece.text.now }

abbrev pub caught_at : Caught → Catch
caught_at caught = record {
  row = caught.row.now;
  file = option_map cut_told caught.file;
  line = option_map cut_told caught.line;
  column = option_map cut_told caught.column;
  end_line = option_map cut_told caught.end_line;
  end_column = option_map cut_told caught.end_column;
  severity = option_map cut_told caught.severity;
  code = option_map cut_told caught.code;
  message = option_map cut_told caught.message;
  quoted = option_map cut_told caught.quoted;
  marks = option_map cut_told caught.marks;
}

-- ---- what groups catch

-- what stands at a span of a line
abbrev pub cut_at : List ℕ → ℕ × ℕ → Cut
cut_at line at = record { front = take at.0 line; text = slice_range line at.0 at.1 }

-- what a group caught, if the pattern has it, and it took part
abbrev pub cut_of : (ℕ → Option (ℕ × ℕ)) → List ℕ → Option ℕ → Option Cut
cut_of spans line group = option_map (cut_at line) (option_and_then spans group)

-- one of the parts that commas stand between, if there are so many
abbrev pub part_of : ℕ → Cut → Option Cut
part_of number place =
    option_map (λ text. record place { text = text })
    (slice_get (slice_split (λ c. c == 44) place.text) number)

-- a location has a line, a column, and the line and the column of the end, where no other groups caught them
abbrev pub place_part : ℕ → Option Cut → Option Cut → Option Cut
place_part number place own = option_or own (option_and_then (part_of number) place)

-- what the groups caught that stand at these spans of a line
abbrev pub catch_of : (ℕ → Option (ℕ × ℕ)) → Groups → List ℕ → Catch
catch_of spans groups line = record {
  row = line;
  file = cut_of spans line groups.file;
  line = place_part 0 (cut_of spans line groups.location) (cut_of spans line groups.line);
  column = place_part 1 (cut_of spans line groups.location) (cut_of spans line groups.column);
  end_line = place_part 2 (cut_of spans line groups.location) (cut_of spans line groups.end_line);
  end_column = place_part 3 (cut_of spans line groups.location) (cut_of spans line groups.end_column);
  severity = cut_of spans line groups.severity;
  code = cut_of spans line groups.code;
  message = cut_of spans line groups.message;
  quoted = cut_of spans line groups.quoted;
  marks = cut_of spans line groups.marks;
}

-- where a group of a match stands: group 0 is the whole of it
abbrev pub span_of : Match → ℕ → Option (ℕ × ℕ)
span_of found zero = Some (span found)
span_of found (suc group) = group_of found (suc group)

-- what a pattern catches of a line, if the line fits it: by its leftmost match
unfoldable pub catch_by : Re → Groups → List ℕ → Option Catch
catch_by pattern groups line =
    option_map (λ found. catch_of (span_of found) groups line) (find_str pattern line 0)
