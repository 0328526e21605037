use Rattle.std.proofs.Common.{◌≡◌, ◌++◌, drop}
use Rattle.std.specs.Prelude.{map}
use Rattle.ariadne_matchers.specs.Catches.{caught_at}
use Rattle.ariadne_matchers.specs.MatchedRows.{caught_front, row_of, texts}
use Rattle.ariadne_matchers.proofs.rows.RowSearch.catch_front.Given as goal

-- the lines so far fit
abbrev pub invariant-loop-line : goal.invariant-loop-line
invariant-loop-line l = record {
  row : row_of l.self ≡ row_of l.initial.self;
  same : caught_front (row_of l.initial.self) (texts l.fn.lines)
      ≡ map caught_at l.all.items ++ caught_front (row_of l.initial.self) (texts (drop l.line-index l.fn.lines));
}
