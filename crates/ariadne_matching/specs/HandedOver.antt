-- What is handed over in the place of lines: a line that no entry fits as it is, and for lines that one fits those
-- that it doesn't take in as they are, with a report in the place of the last one that it does.
use Rattle.std.specs.Prelude.{ℕ, zero, suc, ◌≡◌, ◌==◌, Bool, if◌then◌else◌, List, [], ◌++◌, length, map}
use Rattle.std.specs.Prelude.{Option, Some, None, slice_get, string_bytes}
use Rattle.std.specs.List.{concat, range_with_len}
use Rattle.ariadne_matchers.specs.Catches.{caught_at}
use Rattle.ariadne_matchers.specs.Lasts.{is_taken_in}
use Rattle.ariadne_matchers.specs.declared.reader.Fit.{Fit}
use Rattle.ariadne_show.specs.InputLines.{bare_text}
use Rattle.ariadne_matching.specs.declared.lines.Waiting.{Waiting}

-- ---- lines

abbrev pub text_in : Waiting → List ℕ
text_in line = string_bytes line.text

-- a line of these bytes, and its text
pub record IsWaitingLine (bytes : List ℕ) (line : Waiting) : Type 0 where
  pub bytes_read : line.bytes.items ≡ bytes
  pub text : text_in line ≡ bare_text bytes

-- ---- lines that an entry fits

-- whether it takes one in
abbrev pub is_taken : Fit → ℕ → Bool
is_taken fit place = is_taken_in (map caught_at fit.lines.items) place

-- the last one below a place that it takes in, or the first
unfoldable pub last_taken_below : Fit → ℕ → ℕ
last_taken_below fit zero = 0
last_taken_below fit (suc place) = if is_taken fit place then place else last_taken_below fit place

abbrev pub last_taken : Fit → ℕ
last_taken fit = last_taken_below fit (length fit.lines.items)

-- the bytes of a line that is not taken in
abbrev pub passing_bytes : Option Waiting → Bool → List ℕ
passing_bytes None is_taken = []
passing_bytes (Some line) is_taken = if is_taken then [] else line.bytes.items

-- what of a report stands in a place: all in the last one
abbrev pub report_at : List ℕ → ℕ → ℕ → List ℕ
report_at report place last = if place == last then report else []

-- what stands in the place of a line
abbrev pub handed_at : List Waiting → Fit → List ℕ → ℕ → List ℕ
handed_at lines fit report place =
    report_at report place (last_taken fit) ++ passing_bytes (slice_get lines place) (is_taken fit place)

-- what stands in the place of all
abbrev pub handed_over : List Waiting → Fit → List ℕ → List ℕ
handed_over lines fit report = concat (map (handed_at lines fit report) (range_with_len 0 (length fit.lines.items)))
