-- How a message goes on in lines of its own: a line of mypy's begins with a word that had no room in the line in
-- front, and a row of rustc's short form stands as far to the right as the message begins behind its span.
-- Characters stand as their numbers: 32 is a blank, and 58 `:`.
use Rattle.std.specs.Prelude.{ℕ, ◌+◌, ◌==◌, nat_lt, Bool, false, ◌||◌, if◌then◌else◌, List, chars, codes, drop, length}
use Rattle.std.specs.Prelude.{Option, None, Some, option_and_then}
use Rattle.std.specs.List.{ends_with, list_any, prefix_len}
use Rattle.ariadne_parse.specs.TextPieces.{begins_with, behind, split_once}
use Rattle.ariadne_parse.specs.Spans.{Seen}
use Rattle.ariadne_blocks.specs.Messages.{had_no_room, is_of_python}
use Rattle.ariadne_blocks.specs.declared.goes_on.GoesOn.{GoesOn}
use Rattle.ariadne_blocks.specs.declared.goes_on.GoesOn.TheVariants.{Cut, Nowhere, Rows}

-- ---- heads

-- a file is one of Rust's
abbrev pub is_of_rust : List ℕ → Bool
is_of_rust file = ends_with (λ a b. a == b) file (codes ".rs")

-- what stands behind the first colon of a text
abbrev pub behind_colon : List ℕ → Option (List ℕ)
behind_colon text = option_and_then (λ parts. Some parts.1) (split_once 58 text)

-- a kind is one word, behind a blank
abbrev pub as_kind : List ℕ → Option (List ℕ)
as_kind kind =
    option_and_then (λ word. if list_any (λ c. c == 32) word then None else Some kind) (behind 32 kind)

-- the kind of a head `FILE:LINE:COLUMN: KIND: MESSAGE`, with the blank in front of it
unfoldable pub kind_in : List ℕ → Option (List ℕ)
kind_in head =
    option_and_then (λ span.
    option_and_then (λ column.
    option_and_then (λ said.
    option_and_then (λ kind. as_kind kind.0)
    (split_once 58 said.1))
    (split_once 58 column.1))
    (split_once 58 span.1))
    (split_once 58 head)

-- a message stands behind more blanks than its kind has characters, which count that blank: a colon is there too
abbrev pub behind_kind : Option (List ℕ) → GoesOn
behind_kind None = Nowhere
behind_kind (Some kind) = Rows (length kind)

-- how the message of a head about a span may go on
abbrev pub behind_head : List ℕ → Option Seen → GoesOn
behind_head head None = Nowhere
behind_head head (Some span) =
    if is_of_python span.file then Cut (length (chars head))
    else (if is_of_rust span.file then behind_kind (kind_in head) else Nowhere)

-- ---- lines

-- a text may go on with it: its first word had no room in the line in front
abbrev pub may_go_on_in : GoesOn → List ℕ → Bool
may_go_on_in Nowhere text = false
may_go_on_in (Cut width) text = had_no_room width text
may_go_on_in (Rows blanks) text = false

-- a text is a status of cargo's whose word begins where rows may
abbrev pub is_status : List ℕ → Bool
is_status text =
    begins_with (codes "       Fresh ") text
    || begins_with (codes "       Dirty ") text || begins_with (codes "       Fixed ") text

-- what stands behind one blank more than these
abbrev pub behind_blanks : ℕ → List ℕ → Option (List ℕ)
behind_blanks blanks text =
    if nat_lt blanks (prefix_len (λ c. c == 32) text) then Some (drop (blanks + 1) text) else None

-- the further row of the message that a text is
abbrev pub row_in : GoesOn → List ℕ → Option (List ℕ)
row_in Nowhere text = None
row_in (Cut width) text = None
row_in (Rows blanks) text = if is_status text then None else behind_blanks blanks text
