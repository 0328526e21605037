-- Documents of JSON that go over many lines: which lines are one, and up to where. A document begins with a line whose
-- first character behind blanks is a brace or a bracket, and ends with the first line behind which as many close as
-- open. It isn't one where a line can be no part of JSON, or where it gets too long. The line feed is 10.
use Rattle.std.specs.Prelude.{ℕ, ◌≡◌, ◌≤◌, ◌+◌, ◌^◌, nat_le, Bool, true, false, ◌&&◌, if◌then◌else◌}
use Rattle.std.specs.Prelude.{List, [], ◌++◌, length, slice_get, Option, Some, None}
use Rattle.std.specs.List.{prefix_len}
use Rattle.std.specs.Str.Lossy.{utf8_lossy}
use Rattle.serde_json.specs.Data.{Data}
use Rattle.ariadne_json.specs.Mended.{opens}
use Rattle.ariadne_json.specs.Reading.{value_in}
use Rattle.ariadne_documents.specs.Brackets.{closed, is_blank, is_line, is_open, opened}
use Rattle.ariadne_documents.specs.declared.document.Step.{Step}
use Rattle.ariadne_documents.specs.declared.document.Step.TheVariants.{Broken, Ended, GoesOn}

-- how many bytes a document may have
abbrev pub most_bytes : ℕ
most_bytes = 2 ^ 25

-- a line may be one of a document that goes on with it
abbrev pub fits : List ℕ → List ℕ → Bool
fits text line = nat_le (length text + length line) most_bytes && is_line line

-- what a document does with a line behind its text: it goes on, or ends with it, or is none
abbrev pub step_of : List ℕ → List ℕ → Step
step_of text line =
    if fits text line then (if is_open (text ++ line) then GoesOn else Ended) else Broken

-- its text then
abbrev pub text_with : List ℕ → List ℕ → List ℕ
text_with text line = if fits text line then text ++ line else text

-- a line begins with a brace or a bracket, behind blanks
abbrev pub is_opening : Option ℕ → Bool
is_opening None = false
is_opening (Some b) = opens b

abbrev pub opens_first : List ℕ → Bool
opens_first line = is_opening (slice_get line (prefix_len is_blank line))

-- a line may be the first of a document that goes on behind it
abbrev pub goes_on : List ℕ → Bool
goes_on line = fits [] line && is_open line

-- a line begins a document that goes on behind it
abbrev pub begins : List ℕ → Bool
begins line = opens_first line && goes_on line

-- the value that the bytes of a document are, with U+FFFD in place of what is not UTF-8
abbrev pub value_of : List ℕ → Option Data
value_of bytes = value_in (utf8_lossy bytes)

-- ---- a document as it is held: how many lists and objects it has opened and closed, of JSON's lines

pub record IsGathered (bytes : List ℕ) (opens closes : ℕ) : Type 0 where
  pub opened : opens ≡ opened bytes
  pub closed : closes ≡ closed bytes
  pub lines : is_line bytes ≡ true
  pub bound : length bytes ≤ most_bytes
