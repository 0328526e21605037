use Rattle.std.proofs.Common.{◌≡◌, vec_len}
use Rattle.ariadne_matchers.specs.Readers.{entries_of, first_fit, rows_in, words_of}
use Rattle.ariadne_matchers.specs.MatchedRows.{texts}
use Rattle.ariadne_matchers.proofs.reader.Reader.fit.Given as goal

-- no entry so far counts
abbrev pub invariant-loop-number : goal.invariant-loop-number
invariant-loop-number l = record {
  rows : rows_in l.self ≡ rows_in l.initial.self;
  size : vec_len l.self.entries ≡ vec_len l.initial.self.entries;
  entries : entries_of l.self ≡ entries_of l.initial.self;
  words : words_of l.self ≡ words_of l.initial.self;
  same : first_fit l.from (rows_in l.initial.self) l.is_all (texts l.lines)
      ≡ first_fit l.number (rows_in l.initial.self) l.is_all (texts l.lines);
}
