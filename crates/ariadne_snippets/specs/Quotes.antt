-- How a line of a file stands in a quote of it. A quote has the characters of its line, in their order. A
-- tab may stand in it as blanks, and what can't be seen as a sign. White space at its ends may differ.
-- Characters stand as their numbers: 9 is a tab, 13 a carriage return, 32 a blank, 43 `+`, 46 a dot, 60
-- `<`, 62 `>`, 63 `?`, 85 `U`, 92 `\`, 120 `x`, 123 and 125 braces, 65279 a byte order mark.
use Rattle.std.specs.Prelude.{ℕ, ◌+◌, ◌-◌, ◌≡◌, ◌≤◌, ◌==◌, nat_le, min, max, if◌then◌else◌, Bool, true, false, ◌&&◌, ◌||◌}
use Rattle.std.specs.Prelude.{List, [], ◌∷◌, ◌++◌, drop, length, map, take, slice_get, slice_range}
use Rattle.std.specs.Prelude.{Option, Some, None, option_map}
use Rattle.std.specs.Char.{is_ascii_graphic, is_ascii_hexdigit}
use Rattle.std.specs.List.{list_all, prefix_len, range_with_len, starts_with}
use Rattle.ariadne_parse.specs.declared.unit.Unit.TheVariants.{Display}
use Rattle.ariadne_snippets.specs.Rows.{column_past}
use Rattle.ariadne_snippets.specs.Units.{in_units, unit_begins}
use Rattle.ariadne_snippets.specs.declared.units.Units.TheVariants.{Bytes}

-- ---- white space

-- a blank, a tab, or what is left of a line end
abbrev pub is_white : ℕ → Bool
is_white c = c == 32 || (c == 9 || c == 13)

-- how much of it a text begins with
abbrev pub white_length : List ℕ → ℕ
white_length text = prefix_len is_white text

-- as far as it is looked at
abbrev pub near_white_length : List ℕ → ℕ
near_white_length text = white_length (take 64 text)

-- ---- what stands for a character

-- a tab stands for the blanks of a quote that the white space behind it in its line leaves
abbrev pub tab_width : List ℕ → List ℕ → ℕ
tab_width line quote = near_white_length quote - near_white_length line

-- a character can be seen
abbrev pub is_seen : ℕ → Bool
is_seen c = is_ascii_graphic c || c == 32

-- the picture of a control, that of what is no character, and `?` for what an encoding doesn't have
abbrev pub is_sign : ℕ → Bool
is_sign c = c == 65533 || (c == 63 || (nat_le 9216 c && nat_le c 9254))

-- a character of a code, as U+000C
abbrev pub is_code : ℕ → Bool
is_code c = is_ascii_hexdigit c || (c == 85 || c == 43)

-- a text begins with a character
abbrev pub is_first : ℕ → Option ℕ → Bool
is_first c None = false
is_first c (Some first) = first == c

-- how long a code of 2 to 8 characters is, with the brackets round it, behind the first of these
unfoldable pub bracket_length : List ℕ → ℕ
bracket_length inner =
    let n = prefix_len is_code (take 8 inner) in
    if nat_le 2 n && is_first 62 (slice_get inner n) then n + 2 else 0

-- how long a code in braces is, as \x{6F22}, behind its first character
unfoldable pub escape_length : List ℕ → ℕ
escape_length inner =
    let n = prefix_len is_code (take 8 (drop 2 inner)) in
    if starts_with (λ a b. a == b) inner (120 ∷ 123 ∷ [])
    && (nat_le 1 n && is_first 125 (slice_get (drop 2 inner) n))
    then n + 4 else 0

-- how long the sign is that a quote begins with, if it does
abbrev pub sign_by : List ℕ → Option ℕ → ℕ
sign_by rest None = 0
sign_by rest (Some c) =
    if c == 60 then bracket_length rest else
    (if c == 92 then escape_length rest else (if is_sign c then 1 else 0))

abbrev pub sign_length : List ℕ → ℕ
sign_length quote = sign_by (drop 1 quote) (slice_get quote 0)

-- how many characters of a quote stand for a character in front of the rest of its line, by its first: 0,
-- if it quotes another. White space may be gone at its end
unfoldable pub width_by : ℕ → List ℕ → List ℕ → Option ℕ → ℕ
width_by c line quote None = if is_white c then 1 else 0
width_by c line quote (Some first) =
    if first == c then 1 else
    (if c == 9 then tab_width line quote else (if is_seen c then 0 else sign_length quote))

abbrev pub shown_width : ℕ → List ℕ → List ℕ → ℕ
shown_width c line quote = width_by c line quote (slice_get quote 0)

-- ---- lines

-- where the characters of a line, and its end, begin in a quote that goes on at a place: nothing, if it
-- quotes another line
unfoldable pub begins_from : ℕ → List ℕ → List ℕ → Option (List ℕ)
begins_from at [] quote = if list_all is_white quote then Some (at ∷ []) else None
begins_from at (c ∷ line) quote =
    let width = shown_width c line quote in
    if width == 0 then None
    else option_map (λ begins. at ∷ begins) (begins_from (at + width) line (drop width quote))

-- a byte order mark is shown where a quote begins with it, or with a code
abbrev pub shows_mark : List ℕ → Bool
shows_mark quote = is_first 65279 (slice_get quote 0) || is_first 60 (slice_get quote 0)

-- how many characters in front of a line are not looked for in a quote: white space, behind a byte order
-- mark that isn't shown
unfoldable pub lead_length : List ℕ → List ℕ → ℕ
lead_length line quote =
    if is_first 65279 (slice_get line 0)
    then (if shows_mark quote then 0 else 1 + white_length (drop 1 line))
    else white_length line

-- where one of these begins, in front of a quote that begins at a place: as many columns in front of it as their
-- line has them in front of its rest, or further behind, where the quote has its tabs as they are
abbrev pub lead_begin : List ℕ → ℕ → ℕ → ℕ
lead_begin lead start place =
    max (min place start) (start - (column_past Display 0 lead - column_past Display 0 (take place lead)))

abbrev pub lead_begins : List ℕ → ℕ → List ℕ
lead_begins lead start = map (lead_begin lead start) (range_with_len 0 (length lead))

-- where a text goes on behind white space, from a place on
abbrev pub ink_from : ℕ → List ℕ → ℕ
ink_from place text = place + white_length (drop place text)

-- where the characters of a line, and its end, begin in a quote behind strokes
unfoldable pub begins_in : List ℕ → List ℕ → ℕ → Option (List ℕ)
begins_in line quote strokes =
    let start = ink_from (min strokes (length quote)) quote in
    let lead = lead_length line (drop start quote) in
    option_map (λ begins. lead_begins (take lead line) start ++ begins)
    (begins_from start (drop lead line) (drop start quote))

-- what has been read of a quote behind a place is where the characters of a line begin, if it quotes it
abbrev pub IsBegun : ℕ → List ℕ → List ℕ → List ℕ → List ℕ → Bool → Type 0
IsBegun start line quote before after true =
    (begins : List ℕ) × (begins_from start line quote ≡ Some begins) × (after ≡ before ++ begins)
IsBegun start line quote before after false = begins_from start line quote ≡ None

-- ---- parts

-- where the characters of a line, and its end, begin where they stand one by one from a place of the line
-- and of its quote on
abbrev pub part_begins : ℕ → ℕ → ℕ → List ℕ
part_begins length start place = map (λ at. start + (at - place)) (range_with_len 0 (length + 1))

-- 8 characters of a line or more stand in a quote as they are, from these places on
pub record StandsIn (line quote : List ℕ) (place start : ℕ) : Type 0 where
  pub part : List ℕ
  pub end : ℕ
  pub is_long : 8 ≤ length part
  pub in_quote : part ≡ slice_range quote start end
  pub in_line : starts_with (λ a b. a == b) (drop place line) part ≡ true

-- so a quote has a part of a line
pub record IsPart (line quote begins : List ℕ) : Type 0 where
  pub place : ℕ
  pub start : ℕ
  pub stands : StandsIn line quote place start
  pub begin : begins ≡ part_begins (length line) start place

-- a text begins with another, and has nothing but white space behind it
abbrev pub goes_on_white : List ℕ → List ℕ → Bool
goes_on_white text front =
    starts_with (λ a b. a == b) text front && list_all is_white (drop (length front) text)

-- a quote has a line in its bytes
pub record IsInBytes (line quote begins : List ℕ) : Type 0 where
  pub begin : begins ≡ unit_begins Bytes 0 line
  pub in_quote : goes_on_white quote (in_units Bytes line) ≡ true

-- a text quotes a line, maybe behind strokes or in its bytes, or a part of it
pub data Quotes (text line begins : List ℕ) : Type 0 where
  whole : (strokes : ℕ) → begins_in line text strokes ≡ Some begins → Quotes text line begins
  in_bytes : IsInBytes line text begins → Quotes text line begins
  part : IsPart line text begins → Quotes text line begins
