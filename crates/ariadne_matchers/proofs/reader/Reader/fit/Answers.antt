use Rattle.std.proofs.Common.{◌∙◌, ◌<◌, ap, arith, length, sym}
use Rattle.ariadne_matchers.proofs.Firsts.{first_here, first_later, first_none}
use Rattle.ariadne_matchers.proofs.Lists.{beyond_alike, read_alike, seen_stay, within_alike}
use Rattle.ariadne_matchers.proofs.ReadEntries.{searched}
use Rattle.ariadne_matchers.specs.Readers.{fitting_told, rows_in}
use Rattle.ariadne_matchers.specs.MatchedRows.{rows_of, taken_told, texts}
use Rattle.ariadne_matchers.proofs.reader.Reader.fit.Goals as goal

-- this one counts
pub returns-in_default : goal.returns-in_default
returns-in_default c =
    let so_far = c.loop-number.invariant in
    let i = c.loop-number.number in
    let items = c.loop-number.self.entries.items in
    let old = c.index_mut.result.now in
    let inside = c.loop-number.self.entries.ok.0 in
    let within : i < length items = omega arith in
    let read = read_alike rows_of items (rows_in c.args.self.now) i old within c.index_mut.ensures.value so_far.rows in
    record {
      fits = first_here (rows_in c.args.self.now) c.args.is_all (texts c.args.lines.now) i (rows_of old)
          (within_alike rows_of items (rows_in c.args.self.now) i within so_far.rows) read (taken_told c.in_ok-taken.taken)
          c.in_ok-taken.ensures.taken c.known.result c.in_default.not-Nothing c.known.ensures
          ∙ sym so_far.same;
      same = seen_stay rows_of items i old within c.index_mut.ensures.value c.fit.new.self c.fit.ensures.same ∙ so_far.rows;
      entries = seen_stay searched items i old within c.index_mut.ensures.value c.fit.new.self (ap (λ entry. entry.now) c.fit.ensures.entry)
          ∙ so_far.entries;
      words = so_far.words;
    }

-- it doesn't
pub loop-number-preserved : goal.loop-number-preserved
loop-number-preserved c =
    let so_far = c.loop-number.invariant in
    let i = c.loop-number.number in
    let items = c.loop-number.self.entries.items in
    let old = c.index_mut.result.now in
    let inside = c.loop-number.self.entries.ok.0 in
    let within : i < length items = omega arith in
    let read = read_alike rows_of items (rows_in c.args.self.now) i old within c.index_mut.ensures.value so_far.rows in
    record {
      rows = seen_stay rows_of items i old within c.index_mut.ensures.value c.fit.new.self c.fit.ensures.same ∙ so_far.rows;
      size = so_far.size;
      entries = seen_stay searched items i old within c.index_mut.ensures.value c.fit.new.self (ap (λ entry. entry.now) c.fit.ensures.entry)
          ∙ so_far.entries;
      words = so_far.words;
      same = so_far.same
          ∙ first_later (rows_in c.args.self.now) c.args.is_all (texts c.args.lines.now) i (rows_of old)
          (within_alike rows_of items (rows_in c.args.self.now) i within so_far.rows) read (taken_told c.in_ok-taken.taken) c.in_ok-taken.ensures.taken
          (ap fitting_told (sym c.in-Nothing.is) ∙ c.known.ensures);
    }

-- the entries are the same
pub returns-in_err-taken-clause-same : goal.returns-in_err-taken-clause-same
returns-in_err-taken-clause-same c =
    let inside = c.loop-number.self.entries.ok.0 in
    let within : c.loop-number.number < length c.loop-number.self.entries.items = omega arith in
    seen_stay rows_of c.loop-number.self.entries.items c.loop-number.number c.index_mut.result.now within c.index_mut.ensures.value c.fit.new.self
    c.fit.ensures.same ∙ c.loop-number.invariant.rows

pub returns-in_err-taken-clause-entries : goal.returns-in_err-taken-clause-entries
returns-in_err-taken-clause-entries c =
    let inside = c.loop-number.self.entries.ok.0 in
    let within : c.loop-number.number < length c.loop-number.self.entries.items = omega arith in
    seen_stay searched c.loop-number.self.entries.items c.loop-number.number c.index_mut.result.now within c.index_mut.ensures.value c.fit.new.self
    (ap (λ entry. entry.now) c.fit.ensures.entry) ∙ c.loop-number.invariant.entries

-- none does
pub returns-clause-fits : goal.returns-clause-fits
returns-clause-fits c =
    let so_far = c.loop-number.invariant in
    let inside = c.loop-number.self.entries.ok.0 in
    sym (so_far.same
    ∙ first_none (rows_in c.args.self.now) c.args.is_all (texts c.args.lines.now) c.loop-number.number
    (beyond_alike rows_of c.loop-number.self.entries.items (rows_in c.args.self.now) c.loop-number.number (omega arith) so_far.rows))
