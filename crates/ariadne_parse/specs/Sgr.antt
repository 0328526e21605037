-- A line without the sequences that colour it: the escape, `[`, digits, `;` and `:`, and `m`; or `K` at the
-- end, as gcc writes it, which clears the rest of a row. What sets terminals back goes with them: the shift in
-- behind an `m`, and the escape with `(B`; so do the begin and the end of a link. The bell is 7, the shift in
-- 15, the escape 27, `K` 75, `\` 92 and `m` 109.
use Rattle.std.specs.Prelude.{ℕ, ◌==◌, Bool, ◌||◌, if◌then◌else◌, List, [], ◌∷◌, ◌++◌, codes, drop}
use Rattle.std.specs.Prelude.{Option, Some, None, option_and_then}
use Rattle.std.specs.Prelude.{option_map}
use Rattle.std.specs.Char.{is_ascii_digit}
use Rattle.std.specs.List.{flat_map, list_any, prefix_len, slice_split}
use Rattle.std.specs.Option.{option_or, unwrap_or}
use Rattle.ariadne_parse.specs.TextPieces.{behind, behind_text, split_once}

-- a character may stand between the bracket and the end of a sequence
abbrev pub is_parameter : ℕ → Bool
is_parameter c = is_ascii_digit c || c == 58 || c == 59

abbrev pub past_parameters : List ℕ → List ℕ
past_parameters text = drop (prefix_len is_parameter text) text

-- without the shift in that stands in front, by which terminals like screen are set back
unfoldable pub past_shift : List ℕ → List ℕ
past_shift text = unwrap_or (behind 15 text) text

-- what stands behind the end of a sequence
unfoldable pub behind_end : List ℕ → Option (List ℕ)
behind_end text = option_or (option_map past_shift (behind 109 text)) (behind 75 text)

-- what stands behind a sequence that colours
unfoldable pub behind_color : List ℕ → Option (List ℕ)
behind_color text = option_and_then (λ rest. behind_end (past_parameters rest)) (behind 91 text)

-- a text without a blank, as an address is, ends at the next escape, and nothing stands behind it
abbrev pub past_address : List ℕ → Option (List ℕ)
past_address text = if list_any (λ c. c == 32) text then None else Some []

-- what stands behind the bell that ends a link, or behind an address, which the next escape and a `\` end
abbrev pub past_link : List ℕ → Option (List ℕ)
past_link text = option_or (option_map (λ parts. parts.1) (split_once 7 text)) (past_address text)

-- what stands behind where a link begins or ends: `]8;`, and what it leads to
unfoldable pub behind_link : List ℕ → Option (List ℕ)
behind_link text = option_and_then past_link (behind_text (codes "]8;") text)

-- what stands behind `(B`, which sets terminals like xterm back, or behind the `\` that ends a link
unfoldable pub behind_mark : List ℕ → Option (List ℕ)
behind_mark text = option_or (behind_text (codes "(B") text) (behind 92 text)

-- what stands behind a sequence that doesn't colour
unfoldable pub behind_other : List ℕ → Option (List ℕ)
behind_other text = option_or (behind_link text) (behind_mark text)

-- what stands behind a sequence, if one stands behind an escape
unfoldable pub behind_sequence : List ℕ → Option (List ℕ)
behind_sequence text = option_or (behind_color text) (behind_other text)

-- a piece behind an escape, without the sequence; where none stands there, with the escape
abbrev pub without_sequence : List ℕ → List ℕ
without_sequence piece = unwrap_or (behind_sequence piece) (27 ∷ piece)

-- the first piece, and the others without their sequences
abbrev pub joined : List (List ℕ) → List ℕ
joined [] = []
joined (piece ∷ pieces) = piece ++ flat_map without_sequence pieces

-- the pieces of a line between its escapes, joined so
unfoldable pub bare_line : List ℕ → List ℕ
bare_line line = joined (slice_split (λ c. c == 27) line)
