-- How many bytes of a line are shown, and the blanks at its end.
use Rattle.std.specs.Prelude.{ℕ, ◌≡◌, ◌<◌, ◌≤◌, List, length, encode_utf8_all, slice_index}
use Rattle.std.specs.Str.{drop_trailing_whitespace}

-- those of its characters in front of the white space at its end
abbrev pub shown_bytes : List ℕ → ℕ
shown_bytes text = length (encode_utf8_all (drop_trailing_whitespace text))

-- each byte from this one on is a blank
abbrev pub AreBlanksFrom : ℕ → List ℕ → Type 0
AreBlanksFrom start bytes = (k : ℕ) → start ≤ k → k < length bytes → slice_index bytes k ≡ 32

-- each of the first n bytes is
abbrev pub AreBlanks : ℕ → List ℕ → Type 0
AreBlanks n bytes = (k : ℕ) → k < n → slice_index bytes k ≡ 32
