-- Rows that tell programs what to put where, as changes of the diagnostic that they stand behind. Below the line that
-- gcc and clang quote they show what they put there too, but no text of several lines: that is told once.
-- Characters stand as their numbers: 10 is a line feed, 48 `0`, 51 `3`, 92 the backslash, 110 `n`, 116 `t`.
use Rattle.std.specs.Prelude.{ℕ, ◌+◌, ◌-◌, ◌*◌, ◌==◌, nat_le, min, Bool, true, false, not, ◌&&◌, ◌||◌}
use Rattle.std.specs.Prelude.{if◌then◌else◌, List, [], ◌∷◌, codes, length, Option, None, Some, unwrap_or}
use Rattle.std.specs.Bool.{beq}
use Rattle.std.specs.List.{ends_with, list_any}
use Rattle.std.specs.Str.Lossy.{utf8_lossy}
use Rattle.ariadne_snippets.specs.declared.taken.Fix.{Fix}
use Rattle.ariadne_snippets.specs.declared.taken.FixKind.{FixKind}
use Rattle.ariadne_snippets.specs.declared.taken.FixKind.TheVariants.{Put, PutLine, Become, Remove}
use Rattle.ariadne_parse.specs.FixRows.{FixRow}
use Rattle.ariadne_parse.specs.TextPieces.{in_front_of, in_front_of_text}
use Rattle.ariadne_blocks.specs.MarkedLocations.{is_same_location}
use Rattle.ariadne_blocks.specs.declared.fix_rows.Escape.{Escape}
use Rattle.ariadne_blocks.specs.declared.fix_rows.Escape.TheVariants.{Closed, Digit, Digits, Open}
use Rattle.ariadne_blocks.specs.declared.fix_rows.ParsedChange.{ParsedChange}

-- ---- changes that are told already

-- a kind of fix removes something
abbrev pub is_removal : FixKind → Bool
is_removal Remove = true
is_removal Put = false
is_removal PutLine = false
is_removal Become = false

abbrev pub parsed_change : Fix → ParsedChange
parsed_change fix = record { line = fix.at.line; is_removal = is_removal fix.kind }

-- a change is in this line, and removes something where this kind does
abbrev pub is_like : ℕ → FixKind → ParsedChange → Bool
is_like line kind change = change.line == line && beq change.is_removal (is_removal kind)

-- one of this kind in a line, with this text, is told by one of these
abbrev pub is_parsed_in : List ParsedChange → ℕ → FixKind → List ℕ → Bool
is_parsed_in changes line kind text = not (list_any (λ c. c == 10) text) && list_any (is_like line kind) changes

-- ---- files

-- a path is that of a file that a tool names: below a folder, or as it is named
abbrev pub is_folder : Option (List ℕ) → Bool
is_folder None = false
is_folder (Some folder) = length folder == 0 || ends_with (λ a b. a == b) folder (codes "/")

abbrev pub is_path_of : List ℕ → List ℕ → Bool
is_path_of path file = is_folder (in_front_of_text file path)

-- ---- what a row changes

-- a row takes the place of nothing, at the start of its line
abbrev pub is_first : Option ℕ → Bool
is_first None = false
is_first (Some column) = column == 1

abbrev pub is_at_line : FixRow → Bool
is_at_line row = is_same_location row.start row.end && is_first row.start.column

-- what kind of fix it is, and its text without escapes: nothing is put there, or a line without what ends it, or text
abbrev pub kind_with : FixRow → List ℕ → Option (List ℕ) → FixKind × List ℕ
kind_with row text None = (Put, text)
kind_with row text (Some line) = if is_at_line row then (PutLine, line) else (Put, text)

abbrev pub kind_of : FixRow → List ℕ → FixKind × List ℕ
kind_of row text = if length text == 0 then (Remove, text) else kind_with row text (in_front_of 10 text)

-- its column, from 1, in bytes
abbrev pub column_of : FixRow → ℕ
column_of row = unwrap_or row.start.column 1

-- ---- escapes

-- a digit may be the first of a byte's three octal ones
abbrev pub is_first_digit : ℕ → Bool
is_first_digit c = nat_le 48 c && nat_le c 51

-- a value with a digit more, which is a byte's
abbrev pub with_digit : ℕ → ℕ → ℕ
with_digit value digit = min (min (value * 8) 255 + (digit - 48)) 255

-- what a letter behind a backslash means
abbrev pub meant : ℕ → ℕ
meant c = if c == 110 then 10 else (if c == 116 then 9 else c)

-- the bytes of a text without its escapes, where so much of one was read in front of it
unfoldable pub bytes_behind : Escape → List ℕ → List ℕ
bytes_behind escape [] = []
bytes_behind Closed (c ∷ text) = if c == 92 then bytes_behind Open text else c ∷ bytes_behind Closed text
bytes_behind Open (c ∷ text) =
    if is_first_digit c then bytes_behind (Digit (c - 48)) text else meant c ∷ bytes_behind Closed text
bytes_behind (Digit value) (c ∷ text) = bytes_behind (Digits (with_digit value c)) text
bytes_behind (Digits value) (c ∷ text) = with_digit value c ∷ bytes_behind Closed text

abbrev pub plain_bytes : List ℕ → List ℕ
plain_bytes text = bytes_behind Closed text

-- its text: what is no UTF-8 then is U+FFFD
abbrev pub unescaped : List ℕ → List ℕ
unescaped text = utf8_lossy (plain_bytes text)
