use Rattle.std.proofs.Common.{◌≤◌, length, drop}
use Rattle.ariadne_base.specs.Listing.{listed_lines}
use Rattle.ariadne_edits.specs.Counterparts.{EndKept}
use Rattle.ariadne_edits.specs.SuggestionRows.{TellFirst}
use Rattle.ariadne_edits.proofs.KeptRows.{IsDue}
use Rattle.ariadne_edits.proofs.rows.rows.Given as goal

abbrev pub invariant-loop-pair : goal.invariant-loop-pair
invariant-loop-pair l =
    (l.told.0 ≤ length (listed_lines l.old)) × (l.told.1 ≤ length (listed_lines l.new))
    × TellFirst (listed_lines l.old) (listed_lines l.new) l.told.0 l.told.1 l.rows.items
    × EndKept l.told l.rows.items
    × IsDue (listed_lines l.old) (listed_lines l.new) l.pairs (drop l.pair-index l.pairs) l.told l.rows.items
