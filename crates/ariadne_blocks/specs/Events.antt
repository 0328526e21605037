-- The rows of gcc's analyzer that tell how something comes about, event by event. Characters stand as their numbers:
-- 32 is a blank, 40 and 41 brackets, 45 `-`, 124 the bar.
use Rattle.std.specs.Prelude.{ℕ, ◌==◌, Bool, false, ◌&&◌, ◌||◌, if◌then◌else◌, List, codes, length}
use Rattle.std.specs.Prelude.{Option, None, Some, option_and_then}
use Rattle.std.specs.Char.{is_ascii_digit}
use Rattle.std.specs.List.{ends_with, list_all, starts_with}
use Rattle.std.specs.Path.{rsplit_once}
use Rattle.std.specs.Str.{trim, trim_start}
use Rattle.ariadne_parse.specs.TextPieces.{behind, in_front_of, split_once}
use Rattle.ariadne_blocks.specs.declared.events.EventRow.{EventRow}
use Rattle.ariadne_blocks.specs.declared.events.EventRow.TheVariants.{File, Frame, Quoting, Telling}

-- what such a row is: it tells nothing, or names the file of the next rows, or tells an event that is at no span, or
-- a row of a snippet stands behind a bar
pub data Event : Type 0 where
  frame : Event
  in_file : List ℕ → Event
  telling : List ℕ → Event
  quoting : List ℕ → Event

abbrev pub event_parsed : EventRow → Event
event_parsed Frame = frame
event_parsed (File file) = in_file file.now
event_parsed (Telling event) = telling event.now
event_parsed (Quoting row) = quoting row.now

-- a text begins with words, or ends with them
abbrev pub begins_in : List ℕ → List ℕ → Bool
begins_in words text = starts_with (λ a b. a == b) text words

abbrev pub ends_in : List ℕ → List ℕ → Bool
ends_in words text = ends_with (λ a b. a == b) text words

-- the head of events in a function, `  'f': event 3` or `    +--> 'f': events 1-2`
abbrev pub is_of_events : List ℕ → Bool
is_of_events front =
    begins_in (codes "  ") front
    && (ends_in (codes ": event") front || ends_in (codes ": events") front)

abbrev pub are_numbers : List ℕ → Bool
are_numbers text = list_all (λ c. is_ascii_digit c || c == 45) text

abbrev pub is_head_by : Option (List ℕ × List ℕ) → Bool
is_head_by None = false
is_head_by (Some parts) = is_of_events parts.0 && are_numbers parts.1

unfoldable pub is_head : List ℕ → Bool
is_head line = is_head_by (rsplit_once 32 line)

-- where a function returns, `    <------+`
abbrev pub is_return : List ℕ → Bool
is_return text = begins_in (codes "<-") text && ends_in (codes "-+") text

-- the file of `FILE:LINE:COLUMN:`
abbrev pub file_of_line : List ℕ → Option (List ℕ × List ℕ) → Option (List ℕ)
file_of_line column None = None
file_of_line column (Some parts) = if are_numbers parts.1 && are_numbers column then Some parts.0 else None

abbrev pub file_of_span : Option (List ℕ × List ℕ) → Option (List ℕ)
file_of_span None = None
file_of_span (Some parts) = file_of_line parts.1 (rsplit_once 58 parts.0)

unfoldable pub file_in : List ℕ → Option (List ℕ)
file_in text = file_of_span (option_and_then (rsplit_once 58) (in_front_of 58 text))

-- a row names gcc's program in place of a file: `cc1:`, `cc1plus:`
abbrev pub is_of_program : List ℕ → Bool
is_of_program row = begins_in (codes "cc1") row && ends_in (codes ":") row

-- an event, `(6): ..`: a number in brackets, and what happens
abbrev pub is_closed_by : Option (List ℕ × List ℕ) → Bool
is_closed_by None = false
is_closed_by (Some parts) = are_numbers parts.0

abbrev pub begins_closed : List ℕ → Bool
begins_closed text = is_closed_by (split_once 41 text)

abbrev pub is_numbered_by : Option (List ℕ) → Bool
is_numbered_by None = false
is_numbered_by (Some rest) = begins_closed rest

abbrev pub is_numbered : List ℕ → Bool
is_numbered text = is_numbered_by (behind 40 text)

-- the event that a row tells behind a blank
abbrev pub parsed_by : Option (List ℕ) → Option (List ℕ)
parsed_by None = None
parsed_by (Some event) = if is_numbered event then Some event else None

abbrev pub parsed_in : List ℕ → Option (List ℕ)
parsed_in row = parsed_by (behind 32 row)

-- what stands behind a bar; a bar alone tells nothing, and so does the program's name
abbrev pub event_by : List ℕ → Option (List ℕ) → Option (List ℕ) → Event
event_by row None None = quoting row
event_by row None (Some event) = telling event
event_by row (Some file) parsed = in_file file

abbrev pub event_of_row : List ℕ → Event
event_of_row row = event_by row (file_in row) (parsed_in row)

abbrev pub event_behind : Option (List ℕ) → Option Event
event_behind None = None
event_behind (Some row) = Some (if length (trim row) == 0 || is_of_program row then frame else event_of_row row)

-- what a line is that stands behind blanks
unfoldable pub event_in : List ℕ → Option Event
event_in line =
    if is_head line || is_return (trim_start line) then Some frame
    else event_behind (behind 124 (trim_start line))
