use Rattle.std.proofs.Common.{◌∙◌, ap, sym}
use Rattle.std.proofs.lemmas.List.{take_all}
use Rattle.std.specs.List.{filter}
use Rattle.std.specs.Prelude.{map, option_map}
use Rattle.ariadne_matchers.proofs.ReadEntries.{entry_more, entry_same, rows_more, searched}
use Rattle.ariadne_matchers.specs.Readers.{is_read_by}
use Rattle.ariadne_matchers.specs.MatchedRows.{entry_in, rows_of}
use Rattle.ariadne_matchers.proofs.reader.Reader.new.Goals as goal
use Rattle.ariadne_matchers.proofs.reader.Reader.new.Goals.{then-is_read+in_ok-new+in_ok-push, else-is_read}

-- one more entry, if it is read
pub loop-entry-preserved : goal.loop-entry-preserved
loop-entry-preserved c =
    let reads = is_read_by (option_map (λ tool. tool.now) c.args.tool) in
    let all = c.deref-entry-items.result.now in
    let made = c.loop-entry.entries.items in
    let so_far = c.loop-entry.invariant in
    elim c.if-is_read.branch [
      | then-is_read+in_ok-new+in_ok-push w ↦
          let more = ap (λ v. v.items) w.entries-is ∙ w.in_ok-push.ensures.items in
          record {
            entries = ap (map searched) more
                ∙ entry_more reads all c.loop-entry.entry-index c.entry-item.result c.loop-entry-test.true c.entry-item.is made w.in_ok-new.field-0
                (sym c.is_read.ensures ∙ w.if-is_read.true) w.in_ok-new.ensures.entry so_far.entries;
            rows = ap (map rows_of) more
                ∙ rows_more made w.in_ok-new.field-0 (w.in_ok-new.ensures.rows ∙ ap entry_in (sym w.in_ok-new.ensures.entry)) so_far.rows
                ∙ sym (ap (λ xs. map entry_in (map searched xs)) more);
          }
      | else-is_read w ↦
          record {
            entries = ap (λ v. map searched v.items) w.entries-is
                ∙ entry_same reads all c.loop-entry.entry-index c.entry-item.result c.loop-entry-test.true c.entry-item.is made
                (sym c.is_read.ensures ∙ w.if-is_read.false) so_far.entries;
            rows = ap (λ v. map rows_of v.items) w.entries-is ∙ so_far.rows ∙ sym (ap (λ v. map entry_in (map searched v.items)) w.entries-is);
          }
    ]

-- all of them
pub returns-clause-entries : goal.returns-clause-entries
returns-clause-entries c =
    c.loop-entry.invariant.entries
    ∙ ap (filter (is_read_by (option_map (λ tool. tool.now) c.args.tool)))
    (take_all c.loop-entry.entry-index c.deref-entry-items.result.now c.loop-entry-test.false ∙ c.deref-entry-items.ensures.value)

pub returns-clause-rows : goal.returns-clause-rows
returns-clause-rows c = c.loop-entry.invariant.rows
