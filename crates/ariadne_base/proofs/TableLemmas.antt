-- The table of the lines of a text.
use Rattle.std.proofs.Common.{◌≡◌, ℕ, List, length}
use Rattle.std.proofs.lemmas.List.FromFn.{length-map-range_with_len}
use Rattle.ariadne_base.specs.Table.{line_extent, line_table}

-- there is a row for each line
pub length-line_table : (ls : List (List ℕ)) → length (line_table ls) ≡ length ls
unfolding line_table
length-line_table ls = length-map-range_with_len (line_extent ls) 0 (length ls)
