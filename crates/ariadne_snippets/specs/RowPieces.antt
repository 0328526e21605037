-- Pieces of a line of text. Characters stand as their numbers: 32 is a blank.
use Rattle.std.specs.Prelude.{ℕ, ◌^◌, ◌≡◌, ◌≤◌, ◌==◌, nat_lt, Bool, ◌&&◌, if◌then◌else◌}
use Rattle.std.specs.Prelude.{List, [], ◌∷◌, ◌++◌, length, take, drop, Option, Some, None}
use Rattle.std.specs.Char.{is_ascii_digit}
use Rattle.std.specs.List.{prefix_len, starts_with}
use Rattle.std.specs.Str.{trim_end}
use Rattle.std.specs.Str.Parse.{digits_value}

-- what stands behind a character that a text begins with
abbrev pub behind : ℕ → List ℕ → Option (List ℕ)
behind mark [] = None
behind mark (c ∷ text) = if c == mark then Some text else None

-- a text begins with words
abbrev pub begins_with : List ℕ → List ℕ → Bool
begins_with words text = starts_with (λ a b. a == b) text words

-- what stands behind words that a text begins with
abbrev pub behind_text : List ℕ → List ℕ → Option (List ℕ)
behind_text words text = if begins_with words text then Some (drop (length words) text) else None

-- what stands behind the blanks that a text begins with
abbrev pub past_blanks : List ℕ → List ℕ
past_blanks text = drop (prefix_len (λ c. c == 32) text) text

-- how many decimal digits a text begins with
abbrev pub digits_in : List ℕ → ℕ
digits_in text = prefix_len is_ascii_digit text

-- the number that these are, if there are some and the machine has it, and what stands behind them
unfoldable pub number_in : List ℕ → Option (ℕ × List ℕ)
number_in text =
    let number = digits_value 10 (take (digits_in text) text) in
    if nat_lt 0 (digits_in text) && nat_lt number (2 ^ 64)
    then Some (number, drop (digits_in text) text)
    else None

-- a text is what stands behind blanks that a line begins with, without those at its end
pub record GoesOn (line text : List ℕ) : Type 0 where
  pub indent : ℕ
  pub blanks : indent ≤ prefix_len (λ c. c == 32) line
  pub rest : text ≡ trim_end (drop indent line)

-- a text stands in a line
pub record IsIn (text line : List ℕ) : Type 0 where
  pub front : List ℕ
  pub rest : List ℕ
  pub is_there : line ≡ front ++ text ++ rest
