-- What a note says of spans that can't be shown: each is a row below what the note says.
use Rattle.std.specs.Prelude.{ℕ, ◌==◌, if◌then◌else◌, List, [], ◌++◌, Option, Some, None, length}
use Rattle.std.specs.Prelude.{codes, decimal}
use Rattle.ariadne_parse.specs.declared.diagnostic.Location.{Location}

-- a column behind a colon, if there is one
abbrev pub column_words : Option ℕ → List ℕ
column_words None = []
column_words (Some column) = codes ":" ++ decimal column

-- what is said behind a colon, if anything is
abbrev pub said_words : List ℕ → List ℕ
said_words said = if length said == 0 then [] else codes ": " ++ said

-- where a span is, FILE:LINE:COLUMN, and what is said of it
abbrev pub span_row : List ℕ → Location → List ℕ → List ℕ
span_row file at said =
    file ++ codes ":" ++ decimal at.line ++ column_words at.column ++ said_words said

-- a text with a row below those that it has
abbrev pub with_row : List ℕ → List ℕ → List ℕ
with_row text row = if length text == 0 then row else text ++ codes "\n" ++ row
