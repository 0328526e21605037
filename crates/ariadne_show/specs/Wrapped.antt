-- Helps and notes in rows. Where the columns of rows are limited, each line of such a text is cut at
-- its blanks: a row has as many words as fit there, and a word that is wider stands alone. No word is
-- cut, and nothing is left out but the blank in front of a row. Columns are those of the text as it is
-- shown, where a sign stands for each hidden character.
use Rattle.std.specs.Prelude.{ℕ, ◌+◌, ◌-◌, max, Bool, ◌==◌, ◌||◌, nat_le, if◌then◌else◌}
use Rattle.std.specs.Prelude.{List, [], ◌∷◌, ◌++◌, map}
use Rattle.std.specs.List.{list_all, slice_split}
use Rattle.ariadne.specs.Columns.{text_columns}
use Rattle.ariadne.specs.Lists.{joined}
use Rattle.ariadne_safe.specs.Visible.{visible_bytes}
use Rattle.ariadne_safe.specs.declared.text.TextKind.TheVariants.{Aside}

-- the lines of a text, and the words of a line: what stands between its blanks
abbrev pub lines_in : List ℕ → List (List ℕ)
lines_in text = slice_split (λ b. b == 10) text

abbrev pub words_in : List ℕ → List (List ℕ)
words_in line = slice_split (λ b. b == 32) line

-- the columns of a word
unfoldable pub word_columns : List ℕ → ℕ
word_columns word = text_columns (visible_bytes Aside word)

-- what stands behind words that take so many columns of a row of n: the next word stands in their row,
-- behind a blank, if it fits there, and else it begins the next row
unfoldable pub behind_words : ℕ → ℕ → List (List ℕ) → List ℕ
behind_words n taken [] = []
behind_words n taken (word ∷ words) =
    let more = taken + 1 + word_columns word in
    if nat_le more n
    then 32 ∷ word ++ behind_words n more words
    else 10 ∷ word ++ behind_words n (word_columns word) words

-- words in rows of n columns
unfoldable pub wrapped_words : ℕ → List (List ℕ) → List ℕ
wrapped_words n [] = []
wrapped_words n (word ∷ words) = word ++ behind_words n (word_columns word) words

-- a line in such rows, and lines, each of which begins a row
abbrev pub wrapped_line : ℕ → List ℕ → List ℕ
wrapped_line n line = wrapped_words n (words_in line)

unfoldable pub wrapped_lines : ℕ → List (List ℕ) → List ℕ
wrapped_lines n [] = []
wrapped_lines n (line ∷ lines) = wrapped_line n line ++ joined (λ next. 10 ∷ wrapped_line n next) lines

-- the columns that are left for a help or a note in a row of so many: 8 are for the name in front, as
-- `Note 1: `
abbrev pub aside_columns : ℕ → ℕ
aside_columns columns = max (columns - 8) 1

-- a help or a note whose rows take so many columns, with the name; 0 is any number
unfoldable pub wrapped : ℕ → List ℕ → List ℕ
wrapped columns text =
    if columns == 0 then text else wrapped_lines (aside_columns columns) (lines_in text)

-- a row takes at most n columns
abbrev pub is_within : ℕ → List ℕ → Bool
is_within n row = nat_le (word_columns row) n

-- each row of a text takes at most so many columns, with the name; 0 is any number
abbrev pub fits : ℕ → List ℕ → Bool
fits columns rows = columns == 0 || list_all (is_within (aside_columns columns)) (lines_in rows)

-- a text with blanks for its line ends
abbrev pub in_one_line : List ℕ → List ℕ
in_one_line text = map (λ b. if b == 10 then 32 else b) text
