-- What a diagnostic says, by the rows of its message that lines caught.
use Rattle.std.specs.Prelude.{ℕ, ◌==◌, Bool, if◌then◌else◌, List, [], length}
use Rattle.std.specs.Prelude.{Option, Some, None, option_and_then, option_map, string_bytes}
use Rattle.std.specs.List.{filter_map, join_by}
use Rattle.std.specs.Str.{trim, trim_end}
use Rattle.std.specs.Str.Lossy.{utf8_lossy}
use Rattle.percent_encoding.specs.Percent.{percent_decode}
use Rattle.ariadne_matchers.specs.Catches.{Catch, Cut}
use Rattle.ariadne_matchers.specs.declared.entry.Entry.{Entry}

-- a text that is not empty
abbrev pub if_any : List ℕ → Option (List ℕ)
if_any text = if length text == 0 then None else Some text

-- the row of a message that a line caught, without blanks at its end, if it is not empty then
abbrev pub message_row : Catch → Option (List ℕ)
message_row caught = option_and_then (λ cut. if_any (trim_end cut.text)) caught.message

abbrev pub message_rows : List Catch → List (List ℕ)
message_rows lines = filter_map message_row lines

-- a text, or where it is empty the entry's own message, or the code, or nothing
abbrev pub own_or : Option (List ℕ) → Option Cut → List ℕ
own_or (Some own) code = own
own_or None (Some code) = code.text
own_or None None = []

abbrev pub chosen : List ℕ → Option (List ℕ) → Option Cut → List ℕ
chosen text own code = if length text == 0 then own_or own code else text

-- a text with the characters in place of their escapes, if it has some
abbrev pub unescaped : Bool → List ℕ → List ℕ
unescaped is_escaped text = if is_escaped then utf8_lossy (percent_decode text) else text

-- the rows, with what the entry has between them, and without blanks around; or what stands for them
unfoldable pub message_of : Entry → List Catch → Option Cut → List ℕ
message_of entry lines code =
    unescaped entry.is_escaped
    (chosen (trim (join_by (λ row. row) (string_bytes entry.join) (message_rows lines)))
    (option_map string_bytes entry.message) code)
