-- Pieces of a line of text. Characters stand as their numbers: 9 is a tab, 27 the escape, 32 a blank,
-- 40 `(`, 41 `)`, 44 `,`, 45 `-`, 46 `.`, 58 `:`, 91 `[`, 93 `]`, 123 `{` and 125 `}`.
use Rattle.std.specs.Prelude.{ℕ, ◌+◌, ◌-◌, ◌^◌, ◌==◌, nat_lt, Bool, false, not, ◌&&◌, ◌||◌}
use Rattle.std.specs.Prelude.{if◌then◌else◌, List, [], ◌∷◌, length, take, drop, reverse}
use Rattle.std.specs.Prelude.{Option, Some, None, option_map, option_and_then}
use Rattle.std.specs.Char.{is_ascii_digit}
use Rattle.std.specs.List.{ends_with, position, prefix_len, starts_with}
use Rattle.std.specs.Str.Parse.{digits_value}

-- ---- marks and words

-- what stands behind a character that a text begins with
abbrev pub behind : ℕ → List ℕ → Option (List ℕ)
behind mark [] = None
behind mark (c ∷ text) = if c == mark then Some text else None

-- what stands in front of a character that a text ends with
abbrev pub in_front_of : ℕ → List ℕ → Option (List ℕ)
in_front_of mark text = option_map reverse (behind mark (reverse text))

-- a text begins with words, and ends with them
abbrev pub begins_with : List ℕ → List ℕ → Bool
begins_with words text = starts_with (λ a b. a == b) text words

abbrev pub closes_with : List ℕ → List ℕ → Bool
closes_with words text = ends_with (λ a b. a == b) text words

-- words stand in a text
abbrev pub contains : List ℕ → List ℕ → Bool
contains words [] = begins_with words []
contains words (c ∷ text) = begins_with words (c ∷ text) || contains words text

-- what stands behind words that a text begins with
unfoldable pub behind_text : List ℕ → List ℕ → Option (List ℕ)
behind_text words text = if begins_with words text then Some (drop (length words) text) else None

-- what stands in front of words that a text ends with
unfoldable pub in_front_of_text : List ℕ → List ℕ → Option (List ℕ)
in_front_of_text words text =
    if closes_with words text then Some (take (length text - length words) text) else None

-- what stands in front of the first such character, and behind it
unfoldable pub split_once : ℕ → List ℕ → Option (List ℕ × List ℕ)
split_once mark text =
    option_map (λ at. (take at text, drop (at + 1) text)) (position (λ c. c == mark) text)

-- ---- blanks

-- a text is not empty, and begins with no blank or tab
abbrev pub is_flush : List ℕ → Bool
is_flush [] = false
is_flush (c ∷ text) = not (c == 32 || c == 9)

-- what stands behind the blanks that a text begins with
abbrev pub past_blanks : List ℕ → List ℕ
past_blanks text = drop (prefix_len (λ c. c == 32) text) text

-- ---- numbers

-- how many decimal digits a text begins with
abbrev pub digits_in : List ℕ → ℕ
digits_in text = prefix_len is_ascii_digit text

-- the number that these are, if there are some and the machine has it, and what stands behind them
unfoldable pub number_in : List ℕ → Option (ℕ × List ℕ)
number_in text =
    let number = digits_value 10 (take (digits_in text) text) in
    if nat_lt 0 (digits_in text) && nat_lt number (2 ^ 64)
    then Some (number, drop (digits_in text) text)
    else None

-- the number that a text is
unfoldable pub whole_number : List ℕ → Option ℕ
whole_number text =
    option_and_then (λ found. if length found.1 == 0 then Some found.0 else None) (number_in text)
