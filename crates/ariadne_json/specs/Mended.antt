-- A text of JSON without what a reader with limits refuses. What nests deeper than 100, and a number that
-- is too large for a float, is null, and half a pair that stands alone is U+FFFD. Bytes stand as their
-- numbers: 34 is a quote, 91 `[`, 93 `]`, 123 `{` and 125 `}`.
use Rattle.std.specs.Prelude.{ℕ, ◌+◌, ◌-◌, ◌==◌, nat_lt, Bool, false, ◌&&◌, ◌||◌, if◌then◌else◌}
use Rattle.std.specs.Prelude.{List, [], ◌∷◌, ◌++◌, codes, length, slice_index, Option, Some, None, is_none}
use Rattle.std.specs.Str.{is_utf8}
use Rattle.json.specs.Word.{after_number}
use Rattle.serde_json.specs.Read.{read}
use Rattle.ariadne_json.specs.Cuts.{pieces}
use Rattle.ariadne_json.specs.Escapes.{mended_text}
use Rattle.ariadne_json.specs.Pieces.{is_of_number, piece_len}

-- ---- depth

-- brackets and braces
abbrev pub opens : ℕ → Bool
opens b = b == 91 || b == 123

abbrev pub closes : ℕ → Bool
closes b = b == 93 || b == 125

-- how deep the text is behind a piece that begins with a byte
abbrev pub depth_behind : ℕ → ℕ → ℕ
depth_behind depth b = if opens b then depth + 1 else (if closes b then depth - 1 else depth)

-- ---- numbers

-- nothing stands behind a number
abbrev pub is_end : Option (List ℕ) → Bool
is_end None = false
is_end (Some rest) = length rest == 0

-- a piece is a number that is refused
abbrev pub is_beyond : List ℕ → Bool
is_beyond piece = is_utf8 piece && (is_end (after_number piece) && is_none (read piece))

-- ---- texts

-- what is written of a piece that begins with a byte, 100 deep at most
abbrev pub mended_piece : List ℕ → ℕ → List ℕ
mended_piece piece b =
    if b == 34 then mended_text piece
    else (if is_of_number b && is_beyond piece then codes "null" else piece)

-- what is written of a piece at a depth
abbrev pub written : ℕ → List ℕ → List ℕ
written depth piece =
    if nat_lt 100 depth then []
    else (if depth == 100 && opens (slice_index piece 0) then codes "null"
    else mended_piece piece (slice_index piece 0))

-- of pieces that begin at a depth
abbrev pub all_written : ℕ → List (List ℕ) → List ℕ
all_written depth [] = []
all_written depth (piece ∷ rest) =
    written depth piece ++ all_written (depth_behind depth (slice_index piece 0)) rest

-- of a text
abbrev pub mended : List ℕ → List ℕ
mended text = all_written 0 (pieces piece_len text)
