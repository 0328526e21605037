-- The pieces of a text of JSON: a text in quotes, a number, or a byte. Bytes stand as their numbers: 34
-- is a quote, 43 `+`, 45 `-`, 46 `.`, 69 `E`, 92 a backslash and 101 `e`.
use Rattle.std.specs.Prelude.{ℕ, ◌+◌, ◌==◌, Bool, true, false, ◌||◌, if◌then◌else◌, List, [], ◌∷◌}
use Rattle.std.specs.List.{prefix_len}
use Rattle.std.specs.Char.{is_ascii_digit}

-- how long a text in quotes is behind its first quote. The next quote with no backslash in front of it
-- is its last byte; where there is none, the last byte of all is
abbrev pub text_len : Bool → List ℕ → ℕ
text_len is_escaped [] = 0
text_len true (b ∷ t) = 1 + text_len false t
text_len false (b ∷ t) = if b == 34 then 1 else 1 + text_len (b == 92) t

-- a byte may stand in a number
abbrev pub is_of_number : ℕ → Bool
is_of_number b = is_ascii_digit b || b == 43 || b == 45 || b == 46 || b == 69 || b == 101

-- how long the first piece is
unfoldable pub piece_len : List ℕ → ℕ
piece_len [] = 0
piece_len (b ∷ t) =
    if b == 34 then 1 + text_len false t
    else (if is_of_number b then 1 + prefix_len is_of_number t else 1)
