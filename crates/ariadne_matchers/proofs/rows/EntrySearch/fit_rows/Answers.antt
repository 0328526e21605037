use Rattle.std.proofs.Common.{◌∙◌, ◌<◌, ap, arith, drop, length, refl, sym}
use Rattle.std.specs.Prelude.{map}
use Rattle.ariadne_matchers.proofs.Lists.{beyond_alike, read_alike, seen_stay, within_alike}
use Rattle.ariadne_matchers.proofs.RowLines.{before_none, rows_end, rows_more, rows_stop}
use Rattle.ariadne_matchers.specs.Catches.{caught_at}
use Rattle.ariadne_matchers.specs.MatchedRows.{before, fit_rows, row_of, rows_of, taken_by, taken_told, texts}
use Rattle.ariadne_matchers.proofs.rows.EntrySearch.fit_rows.Goals as goal

-- no row has taken a line
pub loop-number-init : goal.loop-number-init
loop-number-init c = record {
  rows = refl;
  size = refl;
  entry = refl;
  same = sym (ap (λ all. before (map caught_at all) (fit_rows (rows_of c.args.self.now) c.args.is_all (drop (length all) (texts c.args.lines.now))))
      c.new-all.ensures.items
      ∙ before_none (fit_rows (rows_of c.args.self.now) c.args.is_all (texts c.args.lines.now)));
}

-- one more takes some
pub loop-number-preserved : goal.loop-number-preserved
loop-number-preserved c =
    let so_far = c.loop-number.invariant in
    let i = c.loop-number.number in
    let items = c.loop-number.self.rows.items in
    let all = c.loop-number.all.items in
    let old = c.index_mut.result.now in
    let lines = texts c.args.lines.now in
    let inside = c.loop-number.self.rows.ok.0 in
    let within : i < length items = omega arith in
    let read = read_alike row_of items (rows_of c.args.self.now) i old within c.index_mut.ensures.value so_far.rows in
    record {
      rows = seen_stay row_of items i old within c.index_mut.ensures.value c.take.new.self c.take.ensures.same ∙ so_far.rows;
      size = so_far.size;
      entry = so_far.entry;
      same = so_far.same
          ∙ rows_more (rows_of c.args.self.now) c.args.is_all lines i (row_of old) (within_alike row_of items (rows_of c.args.self.now) i within so_far.rows)
          read all c.in-Lines.more.items _ c.in_ok-append-in-Lines.ensures.items
          (ap taken_told (sym c.in-Lines.is) ∙ c.in_ok-taken.ensures.taken
          ∙ ap (taken_by (row_of old) c.args.is_all) (c.behind.ensures ∙ ap (λ xs. drop (length xs) lines) c.as_slice.ensures.value));
    }

-- it takes none, or the next line tells
pub returns-in_default : goal.returns-in_default
returns-in_default c =
    let so_far = c.loop-number.invariant in
    let i = c.loop-number.number in
    let items = c.loop-number.self.rows.items in
    let old = c.index_mut.result.now in
    let lines = texts c.args.lines.now in
    let inside = c.loop-number.self.rows.ok.0 in
    let within : i < length items = omega arith in
    let read = read_alike row_of items (rows_of c.args.self.now) i old within c.index_mut.ensures.value so_far.rows in
    record {
      taken = rows_stop (rows_of c.args.self.now) c.args.is_all lines i (row_of old)
          (within_alike row_of items (rows_of c.args.self.now) i within so_far.rows)
          read (length c.loop-number.all.items) (map caught_at c.loop-number.all.items) c.in_ok-taken.taken c.in_default.not-Lines
          (c.in_ok-taken.ensures.taken
          ∙ ap (taken_by (row_of old) c.args.is_all) (c.behind.ensures ∙ ap (λ xs. drop (length xs) lines) c.as_slice.ensures.value))
          ∙ sym so_far.same;
      same = seen_stay row_of items i old within c.index_mut.ensures.value c.take.new.self c.take.ensures.same ∙ so_far.rows;
      entry = so_far.entry;
    }

-- the rows are the same
pub returns-in_err-taken-clause-same : goal.returns-in_err-taken-clause-same
returns-in_err-taken-clause-same c =
    let inside = c.loop-number.self.rows.ok.0 in
    let within : c.loop-number.number < length c.loop-number.self.rows.items = omega arith in
    seen_stay row_of c.loop-number.self.rows.items c.loop-number.number c.index_mut.result.now within c.index_mut.ensures.value c.take.new.self
    c.take.ensures.same ∙ c.loop-number.invariant.rows

pub returns-in_err-append-in-Lines-clause-same : goal.returns-in_err-append-in-Lines-clause-same
returns-in_err-append-in-Lines-clause-same c =
    let inside = c.loop-number.self.rows.ok.0 in
    let within : c.loop-number.number < length c.loop-number.self.rows.items = omega arith in
    seen_stay row_of c.loop-number.self.rows.items c.loop-number.number c.index_mut.result.now within c.index_mut.ensures.value c.take.new.self
    c.take.ensures.same ∙ c.loop-number.invariant.rows

-- no row is left
pub returns-clause-taken : goal.returns-clause-taken
returns-clause-taken c =
    let so_far = c.loop-number.invariant in
    let inside = c.loop-number.self.rows.ok.0 in
    rows_end (rows_of c.args.self.now) c.args.is_all (drop (length c.loop-number.all.items) (texts c.args.lines.now)) c.loop-number.number
    (map caught_at c.loop-number.all.items)
    (beyond_alike row_of c.loop-number.self.rows.items (rows_of c.args.self.now) c.loop-number.number (omega arith) so_far.rows)
    ∙ sym so_far.same
