-- A row of gcc's without its own colours, which leaves the escapes of a source that it quotes: each of gcc's
-- sequences stands in front of one that clears the row, `ESC [ K`. 27 is the escape, 91 `[`, 109 `m` and 59 `;`.
use Rattle.std.specs.Prelude.{ℕ, ◌==◌, Bool, false, ◌||◌, if◌then◌else◌}
use Rattle.std.specs.Prelude.{List, [], ◌∷◌, ◌++◌, Option, None, Some, drop, take}
use Rattle.std.specs.Char.{is_ascii_digit}
use Rattle.std.specs.List.{list_all}
use Rattle.std.specs.Path.{rsplit_once}
use Rattle.std.specs.Str.Pattern.{FindsText}
use Rattle.ariadne_parse.specs.TextPieces.{behind, in_front_of}

-- what clears a row
abbrev pub clear : List ℕ
clear = 27 ∷ 91 ∷ 75 ∷ []

-- digits and `;`
abbrev pub is_parameter : ℕ → Bool
is_parameter c = is_ascii_digit c || c == 59

-- a text is `[ digits and ; m`
abbrev pub ends_color : Option (List ℕ) → Bool
ends_color None = false
ends_color (Some text) = list_all is_parameter text

abbrev pub is_color_behind : Option (List ℕ) → Bool
is_color_behind None = false
is_color_behind (Some text) = ends_color (in_front_of 109 text)

unfoldable pub is_color : List ℕ → Bool
is_color text = is_color_behind (behind 91 text)

-- a text without the sequence of a colour at its end, if one stands there
abbrev pub without_last_by : List ℕ → Option (List ℕ × List ℕ) → List ℕ
without_last_by text None = text
without_last_by text (Some parts) = if is_color parts.1 then parts.0 else text

unfoldable pub without_last : List ℕ → List ℕ
without_last text = without_last_by text (rsplit_once 27 text)

-- a text without gcc's colours: piece by piece, up to each span where the row is cleared
pub data IsBare : List ℕ → List ℕ → Type 0 where
  no_color : {text : List ℕ} → FindsText clear text None → IsBare text text
  one_color : {text bare : List ℕ} (at behind : ℕ) → FindsText clear text (Some (at, behind))
      → IsBare (drop behind text) bare → IsBare text (without_last (take at text) ++ bare)
