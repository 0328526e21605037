-- Sequences of a terminal, and which of them a line keeps: those that paint its letters, and hide
-- nothing behind them. Characters stand as their numbers: 40 is `(`, 48 `0`, 58 `:`, 59 `;`, 66 `B`, 75 `K`,
-- 91 `[` and 109 `m`.
use Rattle.std.specs.Prelude.{ℕ, ◌==◌, nat_lt, Bool, true, false, ◌&&◌, ◌||◌, if◌then◌else◌, List, []}
use Rattle.std.specs.Prelude.{◌∷◌, take, drop, Option, Some, None, option_and_then}
use Rattle.std.specs.Char.{is_ascii_digit}
use Rattle.std.specs.List.{list_all, prefix_len, slice_split}
use Rattle.std.specs.Str.Parse.{digits_value}
use Rattle.ariadne_safe.specs.Visible.{is_between}
use Rattle.ariadne_outputs.specs.declared.sequence.Awaited.{Awaited}
use Rattle.ariadne_outputs.specs.declared.sequence.Awaited.TheVariants.{Attribute, Form, Index, Red}
use Rattle.ariadne_outputs.specs.declared.sequence.Awaited.TheVariants.{Green, Blue}

-- ---- sequences

-- a sequence behind its escape character: its parameters, whether it paints letters, and what stands
-- behind it. Else it is gcc's, by which it erases the rest of a row
pub record Sequence : Type 0 where
  pub parameters : List ℕ
  pub is_paint : Bool
  pub behind : List ℕ

-- a character of parameters: a digit, `:` or `;`
abbrev pub is_of_parameters : ℕ → Bool
is_of_parameters c = is_ascii_digit c || (c == 58) || (c == 59)

-- `m` ends the parameters of a sequence that paints, and `K` digits of one that erases
abbrev pub ended : List ℕ → List ℕ → Option Sequence
ended parameters [] = None
ended parameters (c ∷ behind) =
    if c == 109 then Some (record { parameters = parameters; is_paint = true; behind = behind })
    else (if (c == 75) && list_all is_ascii_digit parameters
    then Some (record { parameters = parameters; is_paint = false; behind = behind })
    else None)

-- the sequence that a text begins with: `[`, its parameters, and what ends them
unfoldable pub sequence_in : List ℕ → Option Sequence
sequence_in [] = None
sequence_in (c ∷ text) =
    let n = prefix_len is_of_parameters text in
    if c == 91 then ended (take n text) (drop n text) else None

-- ---- other escapes

-- what stands behind a letter, if a text begins with it
abbrev pub behind_letter : ℕ → List ℕ → Option (List ℕ)
behind_letter letter [] = None
behind_letter letter (c ∷ text) = if c == letter then Some text else None

-- what stands behind `(B`, by which terminals like xterm choose their usual letters
abbrev pub behind_charset : List ℕ → Option (List ℕ)
behind_charset text = option_and_then (behind_letter 66) (behind_letter 40 text)

-- ---- numbers

-- the number of a part of parameters: digits, up to 255; 0 where there are none
abbrev pub number_in : List ℕ → Option ℕ
number_in part =
    if list_all is_ascii_digit part && nat_lt (digits_value 10 part) 256
    then Some (digits_value 10 part)
    else None

-- the parts of parameters
abbrev pub parts_of : List ℕ → List (List ℕ)
parts_of parameters = slice_split (λ c. c == 59) parameters

-- ---- what is kept

-- no attribute (0), bold, faint, italic and underlined, their ends, and the colours of letters. Not
-- kept are letters that blink, are turned round or hidden, and grounds
abbrev pub is_attribute : ℕ → Bool
is_attribute n =
    is_between 0 4 n || is_between 22 24 n || is_between 30 37 n || (n == 39) || is_between 90 97 n

-- what is awaited behind a number, if that is kept: behind 38 a form of colour, 5 or 2, and then one
-- number or three
unfoldable pub awaited_behind : Awaited → ℕ → Option Awaited
awaited_behind Attribute n =
    if n == 38 then Some Form else (if is_attribute n then Some Attribute else None)
awaited_behind Form n = if n == 5 then Some Index else (if n == 2 then Some Red else None)
awaited_behind Index n = Some Attribute
awaited_behind Red n = Some Green
awaited_behind Green n = Some Blue
awaited_behind Blue n = Some Attribute

-- what is awaited behind parts
abbrev pub awaited_behind_parts : Awaited → List (List ℕ) → Option Awaited
awaited_behind_parts awaited [] = Some awaited
awaited_behind_parts awaited (part ∷ parts) =
    option_and_then (λ next. awaited_behind_parts next parts)
    (option_and_then (awaited_behind awaited) (number_in part))

-- nothing of a colour is
abbrev pub is_whole : Option Awaited → Bool
is_whole None = false
is_whole (Some Attribute) = true
is_whole (Some Form) = false
is_whole (Some Index) = false
is_whole (Some Red) = false
is_whole (Some Green) = false
is_whole (Some Blue) = false

-- each number of parameters is kept, and each colour is whole
unfoldable pub are_kept : List ℕ → Bool
are_kept parameters = is_whole (awaited_behind_parts Attribute (parts_of parameters))

-- a sequence that paints by such numbers is kept
abbrev pub is_kept : Sequence → Bool
is_kept sequence = sequence.is_paint && are_kept sequence.parameters

-- all numbers are 0, so letters behind it look as before any sequence
abbrev pub is_reset : List ℕ → Bool
is_reset parameters = list_all (λ c. (c == 48) || (c == 59)) parameters
