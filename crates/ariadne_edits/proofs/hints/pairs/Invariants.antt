use Rattle.std.proofs.Common.{◌≡◌, ℕ, ◌≤◌}
use Rattle.ariadne_base.specs.Listing.{listed_lines}
use Rattle.ariadne_base.specs.Locations.{byte_len, line_offset}
use Rattle.ariadne_edits.specs.Stays.{first_pairs, from_reaching}
use Rattle.ariadne_edits.proofs.hints.pairs.Given as goal

abbrev pub invariant-loop-i : goal.invariant-loop-i
invariant-loop-i l =
    (l.begin ≡ line_offset byte_len (listed_lines l.old) l.i)
    × ((b : ℕ) → l.begin ≤ b → from_reaching b l.rest ≡ from_reaching b l.initial.rest)
    × (l.pairs.items ≡ first_pairs (listed_lines l.old) (listed_lines l.new) l.initial.rest l.i)
