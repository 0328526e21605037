use Rattle.std.proofs.Common.{◌≡◌, ◌++◌, drop, length}
use Rattle.std.specs.List.{AllByRecursion}
use Rattle.ariadne_base.specs.Listing.{listed_lines}
use Rattle.ariadne_edits.specs.Stays.{IsInside, pairs_in}
use Rattle.ariadne_edits.proofs.hints.push_pairs.Given as goal

abbrev pub invariant-loop-stay : goal.invariant-loop-stay
invariant-loop-stay l =
    AllByRecursion (IsInside (length l.new.text) l.begin) (drop l.stay-index l.stays)
    × (l.pairs.items ++ pairs_in (listed_lines l.new) l.i l.begin (drop l.stay-index l.stays)
    ≡ l.fn.pairs.items ++ pairs_in (listed_lines l.new) l.i l.begin l.stays)
