-- Lines that pass, as they may be shown. A line is cut at its escape characters. What stands in front of
-- the first is text; what stands behind each is a sequence of a terminal and then text, or text alone,
-- and then the escape character is text too. Text is shown with signs for what is hidden in it, but
-- tabs. A sequence that only paints letters is kept where colours are wanted; the others are dropped.
-- 9 is a tab, 10 a line feed, 13 a carriage return, 27 the escape character, 91 `[` and 109 `m`.
use Rattle.std.specs.Prelude.{ℕ, ◌≡◌, ◌==◌, Bool, false, not, ◌&&◌, ◌||◌, if◌then◌else◌, List, []}
use Rattle.std.specs.Prelude.{◌∷◌, ◌++◌, map, chars, codes, encode_utf8_all, Option, Some, None}
use Rattle.std.specs.Io.BufRead.{ends_with_byte, strip_last}
use Rattle.std.specs.List.{flat_map, list_all, slice_split}
use Rattle.std.specs.Str.Lossy.{utf8_lossy}
use Rattle.ariadne_safe.specs.Visible.{is_hidden, shown_code}
use Rattle.ariadne_safe.specs.declared.text.TextKind.TheVariants.{OneRow}
use Rattle.ariadne_outputs.specs.Sequences.{Sequence, behind_charset, is_kept, is_reset, sequence_in}

-- ---- pieces

-- a piece of a line: text, a sequence that is kept, by its parameters, or one that is dropped
pub data Piece : Type 0 where
  text_piece : List ℕ → Piece
  kept_piece : List ℕ → Piece
  dropped_piece : List ℕ → Piece

-- the piece that a sequence is
abbrev pub sequence_piece : Bool → Sequence → Piece
sequence_piece colors sequence =
    if colors && is_kept sequence then kept_piece sequence.parameters
    else dropped_piece
    (27 ∷ 91 ∷ sequence.parameters ++ (if sequence.is_paint then codes "m" else codes "K"))

-- those of what stands behind an escape character, and of that, where it begins with no sequence: `(B` is
-- dropped with it
abbrev pub pieces_beside : List ℕ → Option (List ℕ) → List Piece
pieces_beside part None = text_piece (27 ∷ part) ∷ []
pieces_beside part (Some behind) = dropped_piece (27 ∷ codes "(B") ∷ text_piece behind ∷ []

-- and by the sequence that it begins with, if there is one
abbrev pub pieces_with : Bool → List ℕ → Option Sequence → List Piece
pieces_with colors part None = pieces_beside part (behind_charset part)
pieces_with colors part (Some sequence) = sequence_piece colors sequence ∷ text_piece sequence.behind ∷ []

abbrev pub pieces_behind : Bool → List ℕ → List Piece
pieces_behind colors part = pieces_with colors part (sequence_in part)

-- those of what stands behind several, one behind the other
abbrev pub pieces_behind_all : Bool → List ℕ → List Piece
pieces_behind_all colors text = flat_map (pieces_behind colors) (slice_split (λ c. c == 27) text)

-- those of a line that is cut at its escape characters
abbrev pub pieces_of_parts : Bool → List (List ℕ) → List Piece
pieces_of_parts colors [] = []
pieces_of_parts colors (front ∷ parts) = text_piece front ∷ flat_map (pieces_behind colors) parts

abbrev pub pieces_of : Bool → List ℕ → List Piece
pieces_of colors line = pieces_of_parts colors (slice_split (λ c. c == 27) line)

-- the characters of a piece: those of all pieces are the line's
abbrev pub piece_text : Piece → List ℕ
piece_text (text_piece t) = t
piece_text (kept_piece parameters) = 27 ∷ 91 ∷ parameters ++ codes "m"
piece_text (dropped_piece sequence) = sequence

-- ---- what is shown of them

-- what stands for a character of text: itself, or its sign where it is hidden and no tab
abbrev pub line_code : ℕ → ℕ
line_code c = if c == 9 then c else shown_code OneRow c false

-- nothing is hidden in a text but tabs
abbrev pub hides_nothing : List ℕ → Bool
hides_nothing text = list_all (λ c. not (is_hidden c) || (c == 9)) text

-- what stands for a piece
abbrev pub shown_piece : Piece → List ℕ
shown_piece (text_piece t) = map line_code t
shown_piece (kept_piece parameters) = 27 ∷ 91 ∷ parameters ++ codes "m"
shown_piece (dropped_piece sequence) = []

-- the last sequence of these that is kept leaves letters painted; where there is none, it is as before
abbrev pub is_painted_behind : Bool → List Piece → Bool
is_painted_behind before [] = before
is_painted_behind before (text_piece t ∷ pieces) = is_painted_behind before pieces
is_painted_behind before (kept_piece parameters ∷ pieces) =
    is_painted_behind (not (is_reset parameters)) pieces
is_painted_behind before (dropped_piece sequence ∷ pieces) = is_painted_behind before pieces

-- the reset that ends a line which would leave letters painted
abbrev pub reset_behind : List Piece → List ℕ
reset_behind pieces = if is_painted_behind false pieces then 27 ∷ codes "[0m" else []

-- what is shown of a line without its end, by characters
unfoldable pub passing_text : Bool → List ℕ → List ℕ
passing_text colors line =
    flat_map shown_piece (pieces_of colors line) ++ reset_behind (pieces_of colors line)

-- ---- by parts

-- what stands for the part behind an escape character, and for that, was added to bytes, by which letters
-- are painted or not
pub record HasPassed (colors : Bool) (part : List ℕ) (before : Bool) (old new : List ℕ) (behind : Bool)
    : Type 0 where
  pub bytes : new ≡ old ++ encode_utf8_all (flat_map shown_piece (pieces_behind colors part))
  pub painted : behind ≡ is_painted_behind before (pieces_behind colors part)

-- for all parts of a text that is cut at its escape characters
pub record HavePassed (colors : Bool) (text : List ℕ) (old new : List ℕ) (behind : Bool) : Type 0 where
  pub bytes : new ≡ old ++ encode_utf8_all (flat_map shown_piece (pieces_behind_all colors text))
  pub painted : behind ≡ is_painted_behind false (pieces_behind_all colors text)

-- ---- lines of bytes

-- what ends a line: LF, CR LF or nothing
abbrev pub line_end : List ℕ → List ℕ
line_end line =
    if ends_with_byte 10 line
    then (if ends_with_byte 13 (strip_last 10 line) then 13 ∷ 10 ∷ [] else 10 ∷ [])
    else []

-- what stands in front of that
abbrev pub line_front : List ℕ → List ℕ
line_front line = if ends_with_byte 10 line then strip_last 13 (strip_last 10 line) else line

-- what is shown of a line, with its end, by bytes
abbrev pub passed_line : Bool → List ℕ → List ℕ
passed_line colors line =
    encode_utf8_all (passing_text colors (chars (utf8_lossy (line_front line)))) ++ line_end line
