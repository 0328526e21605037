-- Lines in which a tool counts what it told: javac's `1 error`, and clang's `2 warnings and 1 error
-- generated.`
use Rattle.std.specs.Prelude.{ℕ, ◌==◌, Bool, false, ◌||◌, List, codes, length}
use Rattle.std.specs.Prelude.{Option, option_map, option_and_then}
use Rattle.std.specs.Option.{option_or, unwrap_or}
use Rattle.std.specs.Str.{bytes_eq}
use Rattle.ariadne_parse.specs.TextPieces.{behind_text, number_in}

-- what stands behind a noun; the plural is read where it stands
unfoldable pub behind_errors : List ℕ → Option (List ℕ)
behind_errors text = option_or (behind_text (codes " errors") text) (behind_text (codes " error") text)

unfoldable pub behind_warnings : List ℕ → Option (List ℕ)
behind_warnings text = option_or (behind_text (codes " warnings") text) (behind_text (codes " warning") text)

unfoldable pub behind_noun : List ℕ → Option (List ℕ)
behind_noun text = option_or (behind_errors text) (behind_warnings text)

-- what stands behind a number and a noun
unfoldable pub behind_count : List ℕ → Option (List ℕ)
behind_count text = option_and_then (λ number. behind_noun number.1) (number_in text)

-- behind ` and ` and another
unfoldable pub behind_another : List ℕ → Option (List ℕ)
behind_another text = option_and_then behind_count (behind_text (codes " and ") text)

-- a line is a count alone; or one or two, and `generated.`
abbrev pub is_end : List ℕ → Bool
is_end text = bytes_eq text (codes " generated.")

abbrev pub ends_tally : List ℕ → Bool
ends_tally text =
    length text == 0 || is_end text || unwrap_or (option_map is_end (behind_another text)) false

unfoldable pub is_tally_line : List ℕ → Bool
is_tally_line line = unwrap_or (option_map ends_tally (behind_count line)) false
