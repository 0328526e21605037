-- The numbers of a line and a column, as a group header shows them.
use Rattle.std.proofs.Common.{◌≡◌, ℕ, ◌+◌, List, ◌++◌, length, Option, Some, None, sym, ap, ◌∙◌}
use Rattle.std.specs.Prelude.{codes, decimal}
use Rattle.ariadne_base.specs.Locations.{line_at, column_at}
use Rattle.ariadne_base.specs.Table.{LineExtent, location_of}
use Rattle.ariadne_picture.specs.Groups.{printed_number}
use Rattle.ariadne_picture.specs.Pieces.{location_text}
use Rattle.ariadne_layout.specs.Snippets.{location_numbers}

-- no location has no numbers
pub no_location : (ls : List (List ℕ)) (display_offset : ℕ) (o : Option ℕ) → o ≡ None → location_text ls display_offset o ≡ location_numbers None
unfolding location_text location_numbers
no_location ls display_offset o e = ap (location_text ls display_offset) e

-- the numbers of a location
pub some_location : (ls : List (List ℕ)) (display_offset offset line column : ℕ) (o : Option ℕ) → o ≡ Some offset → line ≡ line_at length ls offset
    → column ≡ column_at length ls offset
    → location_text ls display_offset o ≡ location_numbers (Some (line + 1 + display_offset, column + 1))
unfolding location_text location_numbers printed_number
some_location ls display_offset offset line column o e l c =
    ap (location_text ls display_offset) e
    ∙ (λ i. decimal (sym l i + 1 + display_offset) ++ codes ":" ++ decimal (sym c i + 1))

-- a location that is found has the line of its offset
pub location_line : (ls : List (List ℕ)) (o : ℕ) (x : LineExtent) (n k : ℕ) → (x, n, k) ≡ location_of length ls o → n ≡ line_at length ls o
unfolding location_of
location_line ls o x n k e = ap (λ (p : LineExtent × ℕ × ℕ). p.1) e

-- and its column
pub location_column : (ls : List (List ℕ)) (o : ℕ) (x : LineExtent) (n k : ℕ) → (x, n, k) ≡ location_of length ls o → k ≡ column_at length ls o
unfolding location_of
location_column ls o x n k e = ap (λ (p : LineExtent × ℕ × ℕ). p.2) e
