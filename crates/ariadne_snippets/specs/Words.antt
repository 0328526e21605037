-- Lines of snippets that have words of their own. Characters stand as their numbers: 58 is a colon.
use Rattle.std.specs.Prelude.{ℕ, if◌then◌else◌, List, codes, Option, Some, option_map, option_and_then}
use Rattle.std.specs.Option.{option_or}
use Rattle.ariadne_snippets.specs.RowPieces.{begins_with, behind, behind_text, number_in, past_blanks}
use Rattle.ariadne_snippets.specs.declared.forms.Words.{Words}
use Rattle.ariadne_snippets.specs.declared.forms.Words.TheVariants.{Note, Help, Advice, At, Elsewhere, Inserted, Changed, Gone, Gap}

-- what such a line says: a note, a help, a help that may say how lines are to be, the place of one, a place
-- in another file, a line that is to stand at a number, how a line with a number is to be, that a line is to go,
-- or that lines are left out
pub data LineWords : Type 0 where
  noted : List ℕ → LineWords
  helped : List ℕ → LineWords
  advised : List ℕ → LineWords
  placed : List ℕ → LineWords
  placed_elsewhere : List ℕ → LineWords
  inserted : ℕ → List ℕ → LineWords
  changed : ℕ → List ℕ → LineWords
  gone : LineWords
  gap : LineWords

abbrev pub words_told : Words → LineWords
words_told (Note text) = noted text.now
words_told (Help text) = helped text.now
words_told (Advice text) = advised text.now
words_told (At place) = placed place.now
words_told (Elsewhere place) = placed_elsewhere place.now
words_told (Inserted number text) = inserted number text.now
words_told (Changed number text) = changed number text.now
words_told Gone = gone
words_told Gap = gap

-- behind its blanks: `= note: ..`, `= help: ..`, `--> ..` or `::: ..`
abbrev pub indented_in : List ℕ → Option LineWords
indented_in text =
    option_or (option_map noted (behind_text (codes "= note: ") text))
    (option_or (option_map helped (behind_text (codes "= help: ") text))
    (option_or (option_map placed (behind_text (codes "--> ") text))
    (option_map placed_elsewhere (behind_text (codes "::: ") text))))

-- behind a number: `+ ..` is a line that is to stand there, `~ ..` says how the line is to be, `- ..` that it is
-- to go
abbrev pub changed_by : ℕ → List ℕ → Option LineWords
changed_by number change =
    if begins_with (codes "- ") change then Some gone
    else option_or (option_map (λ text. inserted number text) (behind_text (codes "+ ") change))
    (option_map (λ text. changed number text) (behind_text (codes "~ ") change))

abbrev pub changed_in : List ℕ → Option LineWords
changed_in line =
    option_and_then (λ found. changed_by found.0 (past_blanks found.1)) (number_in (past_blanks line))

-- a note that names no place, maybe behind the name of the part of gcc that says it
abbrev pub note_in : List ℕ → Option (List ℕ)
note_in line =
    option_or (option_or (behind_text (codes "note: ") line) (behind_text (codes "cc1: note: ") line))
    (behind_text (codes "cc1plus: note: ") line)

-- what stands behind the name of a text that stands in no file
abbrev pub behind_unfiled : List ℕ → Option (List ℕ)
behind_unfiled line =
    option_or (option_or (option_or (behind_text (codes "<scratch space>:") line)
    (behind_text (codes "<inline asm>:") line))
    (behind_text (codes "<command line>:") line))
    (behind_text (codes "<built-in>:") line)

-- a note about such a text, with its line and column: `<scratch space>:2:1: note: ..`
abbrev pub unfiled_in : List ℕ → Option (List ℕ)
unfiled_in line =
    option_and_then (λ at_line. option_and_then
    (λ rest. option_and_then (λ at_column. behind_text (codes ": note: ") at_column.1) (number_in rest))
    (behind 58 at_line.1))
    (option_and_then (λ rest. number_in rest) (behind_unfiled line))

-- the words of a line, if it has some
abbrev pub words_in : List ℕ → Option LineWords
words_in line =
    option_or (option_map noted (note_in line))
    (option_or (option_map advised (behind_text (codes "help: ") line))
    (if begins_with (codes "...") line then Some gap
    else option_or (changed_in line) (indented_in (past_blanks line))))

-- a line that is to be put in front of another: gcc's `+++ |+text`
abbrev pub added_in : List ℕ → Option (List ℕ)
added_in line = behind_text (codes "+++ |+") (past_blanks line)
