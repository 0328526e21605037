-- Marks below what a tool quotes of a line. They stand as far behind its first letter as the place does in the
-- file's line, which may be indented otherwise. Columns count from 0. 9 is a tab, 32 a blank.
use Rattle.std.specs.Prelude.{ℕ, ◌+◌, ◌-◌, ◌^◌, ◌==◌, min, Bool, true, false, ◌&&◌, if◌then◌else◌}
use Rattle.std.specs.Prelude.{List, [], ◌∷◌, chars, drop, length, take}
use Rattle.std.specs.Prelude.{Option, Some, None, option_map}
use Rattle.std.specs.Char.{is_whitespace}
use Rattle.std.specs.List.{prefix_len, suffix_len}
use Rattle.ariadne_matchers.specs.Catches.{Cut}
use Rattle.ariadne_matchers.specs.Measures.{width_from}
use Rattle.ariadne_matchers.specs.declared.marks.Marks.{Marks}
use Rattle.ariadne_matchers.specs.declared.measure.Measure.{Measure}

-- the first letters that are quoted, without blanks around them; the columns of the first of them, and of the first
-- mark, in their rows; and how many marks there are
pub record Marking : Type 0 where
  pub letters : List ℕ
  pub quoted : ℕ
  pub first : ℕ
  pub count : ℕ

abbrev pub marks_told : Marks → Marking
marks_told marks = record {
  letters = marks.letters.items;
  quoted = marks.quoted;
  first = marks.first;
  count = marks.count;
}

-- a text without the blanks around it
abbrev pub without_first : List ℕ → List ℕ
without_first text = drop (prefix_len is_whitespace text) text

abbrev pub without_last : List ℕ → List ℕ
without_last text = take (length text - suffix_len is_whitespace text) text

abbrev pub trimmed : List ℕ → List ℕ
trimmed text = without_last (without_first text)

-- the blanks that it begins with
abbrev pub first_blanks : List ℕ → List ℕ
first_blanks text = take (prefix_len is_whitespace text) text

-- the column of its first letter that is no blank, in its line
abbrev pub column_of_first : Measure → Cut → ℕ
column_of_first measure cut = width_from measure (width_from measure 0 (chars cut.front)) (first_blanks (chars cut.text))

-- the marks that were caught, below what was quoted: no more than 256 letters of that are looked for
unfoldable pub marks_of : Measure → Cut → Cut → Marking
marks_of measure quoted marks = record {
  letters = take 256 (trimmed (chars quoted.text));
  quoted = column_of_first measure quoted;
  first = width_from measure 0 (chars marks.front);
  count = length (chars marks.text);
}

abbrev pub marks_by : Measure → Option Cut → Option Cut → Option Marking
marks_by measure None marks = None
marks_by measure (Some quoted) None = None
marks_by measure (Some quoted) (Some marks) = Some (marks_of measure quoted marks)

-- two letters are the same; a tab is as a blank
abbrev pub as_blank : ℕ → ℕ
as_blank letter = if letter == 9 then 32 else letter

abbrev pub same_letters : ℕ → ℕ → Bool
same_letters one other = as_blank one == as_blank other

-- letters stand at the start of a line
abbrev pub begin_line : List ℕ → List ℕ → Bool
begin_line [] line = true
begin_line (letter ∷ letters) [] = false
begin_line (letter ∷ letters) (c ∷ line) = same_letters c letter && begin_line letters line

-- the first place at which letters stand, in a line that begins at a place
unfoldable pub found_in : List ℕ → ℕ → List ℕ → Option ℕ
found_in letters at [] = if length letters == 0 then Some at else None
found_in letters at (c ∷ line) =
    if begin_line letters (c ∷ line) then Some at else found_in letters (at + 1) line

-- the column of the file's line at which the marks stand, if it has the letters
unfoldable pub marked_at : Measure → Marking → List ℕ → Option ℕ
marked_at measure marks line =
    option_map
    (λ place. min (width_from measure 0 (take place line) + marks.first) (2 ^ 64 - 1) - marks.quoted)
    (found_in marks.letters 0 line)
