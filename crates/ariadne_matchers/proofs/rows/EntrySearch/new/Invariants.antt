use Rattle.std.proofs.Common.{◌≡◌, take}
use Rattle.std.specs.Prelude.{map}
use Rattle.ariadne_matchers.specs.MatchedRows.{row_in, row_of}
use Rattle.ariadne_matchers.proofs.rows.EntrySearch.new.Given as goal

-- the rows so far
abbrev pub invariant-loop-row : goal.invariant-loop-row
invariant-loop-row l = map row_of l.rows.items ≡ map row_in (take l.row-index l.row-items)
