-- The text form of rustc, which solc, ruff and ty share: KIND[CODE]: MESSAGE alone in a line, and below
-- it ` --> FILE:LINE:COLUMN`, the span; further spans have `:::` in place of the arrow.
use Rattle.std.specs.Prelude.{ℕ, nat_lt, Bool, true, false, if◌then◌else◌, List, codes, length}
use Rattle.std.specs.Prelude.{Option, Some, None, option_map, option_and_then}
use Rattle.std.specs.Option.{option_or, unwrap_or}
use Rattle.ariadne_parse.specs.Fronts.{span_at_end}
use Rattle.ariadne_parse.specs.Kinds.{sure_kind_in, Kind}
use Rattle.ariadne_parse.specs.TextPieces.{behind_text, in_front_of, past_blanks}
use Rattle.ariadne_parse.specs.declared.diagnostic.Location.{Location}

-- a kind, and a message that is not empty
unfoldable pub bare_head_in : List ℕ → Option (Kind × List ℕ)
bare_head_in line =
    option_and_then (λ said. if nat_lt 0 (length said.1) then Some said else None) (sure_kind_in line)

-- what stands behind the sign in front of a span, and whether that is of a further span
unfoldable pub behind_sign : List ℕ → Option (List ℕ × Bool)
behind_sign text =
    option_or (option_map (λ rest. (rest, false)) (behind_text (codes "--> ") text))
    (option_map (λ rest. (rest, true)) (behind_text (codes "::: ") text))

-- a span, and whether it is a further one; solc writes a colon behind it
unfoldable pub arrow_in : List ℕ → Option (List ℕ × Location × Bool)
arrow_in line =
    option_and_then
    (λ behind.
    option_map (λ span. (span.0, span.1, behind.1))
    (span_at_end (unwrap_or (in_front_of 58 behind.0) behind.0)))
    (behind_sign (past_blanks line))
