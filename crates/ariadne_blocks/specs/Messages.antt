-- A message that goes on in lines of its own, as mypy cuts it at 80 characters: a word that has no room in a
-- line begins the next. What stands in quotes is not cut. A code in brackets ends the last of them.
use Rattle.std.specs.Prelude.{ℕ, suc, ◌-◌, ◌==◌, nat_le, Bool, false, not, ◌&&◌, ◌||◌}
use Rattle.std.specs.Prelude.{if◌then◌else◌, List, [], ◌∷◌, ◌++◌, chars, codes, fold, length, slice_index}
use Rattle.std.specs.Prelude.{Option, None, Some}
use Rattle.std.specs.List.{ends_with}
use Rattle.ariadne_parse.specs.Heads.{code_in}
use Rattle.ariadne_blocks.specs.Telling.{Telling}

-- a file is one of Python's
abbrev pub is_of_python : List ℕ → Bool
is_of_python file =
    ends_with (λ a b. a == b) file (codes ".py") || ends_with (λ a b. a == b) file (codes ".pyi")

-- how many characters the first word of a text has: no blank in quotes ends it
abbrev pub word_length : Bool → List ℕ → ℕ
word_length is_quoted [] = 0
word_length is_quoted (c ∷ text) =
    if c == 32 && not is_quoted then 0
    else suc (word_length (if c == 34 then not is_quoted else is_quoted) text)

-- the first word of a text had no room behind a blank in a line of so many characters
abbrev pub had_no_room : ℕ → List ℕ → Bool
had_no_room width text =
    not (length text == 0) && (nat_le width 80 && nat_le (79 - width) (word_length false (chars text)))

-- a message goes on with a line, behind one blank at least
abbrev pub joined : List ℕ → List ℕ → List ℕ
joined message line = (if slice_index message (length message - 1) == 32 then message else message ++ 32 ∷ []) ++ line

abbrev pub message_with : List ℕ → List (List ℕ) → List ℕ
message_with message lines = fold joined message lines

-- the code in brackets at the end of a message is parted from it, where none is known
abbrev pub parted_by : Telling → Option (List ℕ) → Option (List ℕ × List ℕ) → Telling
parted_by parsed (Some code) found = parsed
parted_by parsed None None = parsed
parted_by parsed None (Some found) = record parsed { message = found.0; code = Some found.1 }

abbrev pub parted : Telling → Telling
parted parsed = parted_by parsed parsed.code (code_in parsed.message)

-- a diagnostic whose message goes on with lines, if there are some
abbrev pub with_lines : List (List ℕ) → Telling → Telling
with_lines [] parsed = parsed
with_lines (line ∷ lines) parsed =
    parted (record parsed { message = message_with parsed.message (line ∷ lines) })
