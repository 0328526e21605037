use Rattle.std.proofs.Common.{◌≡◌, drop, length, vec_len}
use Rattle.std.specs.Prelude.{map}
use Rattle.ariadne_matchers.specs.Catches.{caught_at}
use Rattle.ariadne_matchers.specs.MatchedRows.{before, fit_rows, rows_of, texts}
use Rattle.ariadne_matchers.proofs.rows.EntrySearch.fit_rows.Given as goal

-- the rows so far take these lines, and the others what is behind them
abbrev pub invariant-loop-number : goal.invariant-loop-number
invariant-loop-number l = record {
  rows : rows_of l.self ≡ rows_of l.initial.self;
  size : vec_len l.self.rows ≡ vec_len l.initial.self.rows;
  entry : l.self.entry ≡ l.initial.self.entry;
  same : fit_rows (rows_of l.initial.self) l.is_all (texts l.lines)
      ≡ before (map caught_at l.all.items)
      (fit_rows (drop l.number (rows_of l.initial.self)) l.is_all (drop (length l.all.items) (texts l.lines)));
}
