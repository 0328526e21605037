use Rattle.std.proofs.Common.{map, inl, inr}
use Rattle.toml.specs.View.{view}
use Rattle.ariadne_matcher_tables.specs.MatcherTables.{IsEntryOf, IsOfEntries, IsOfEntryAt}
use Rattle.ariadne_matcher_tables.proofs.EachEntry.{entries_all, entries_more, entries_none, refused_here}
use Rattle.ariadne_matcher_tables.proofs.RowFaults.{handed_on}
use Rattle.ariadne_matcher_tables.proofs.entries.each_entry.Goals as goal

-- none yet
pub loop-place-init : goal.loop-place-init
loop-place-init c = entries_none view IsEntryOf c.args.given.now c.new-all.result.items c.new-all.ensures.items

-- one more
pub loop-place-preserved : goal.loop-place-preserved
loop-place-preserved c =
    rw c.in_ok-push_entry.ensures.added
    (entries_more view IsEntryOf c.args.given.now c.loop-place.place c.index-given-place.result c.loop-place.all.items c.loop-place-test.true c.index-given-place.is
    c.loop-place.invariant c.in_ok-entry_at.field-0 c.in_ok-entry_at.ensures.entry c.in_ok-push_entry.ensures.is_new)

-- the first that is refused: it is wrong
pub returns-in_err-entry_at-clause-refusal : goal.returns-in_err-entry_at-clause-refusal
returns-in_err-entry_at-clause-refusal c =
    handed_on (IsOfEntries (map view c.args.given.now)) c.from_residual.result _ c.from_residual.ensures.1
    (refused_here view IsEntryOf c.args.given.now c.loop-place.place c.index-given-place.result c.loop-place.all.items c.loop-place-test.true c.index-given-place.is
    c.loop-place.invariant IsOfEntryAt _ (inl c.in_err-entry_at.ensures.refusal))

-- or one in front has its name
pub returns-in_err-push_entry-clause-refusal : goal.returns-in_err-push_entry-clause-refusal
returns-in_err-push_entry-clause-refusal c =
    handed_on (IsOfEntries (map view c.args.given.now)) c.from_residual-in_err-push_entry.result _ c.from_residual-in_err-push_entry.ensures.1
    (refused_here view IsEntryOf c.args.given.now c.loop-place.place c.index-given-place.result c.loop-place.all.items c.loop-place-test.true c.index-given-place.is
    c.loop-place.invariant IsOfEntryAt _ (inr (c.in_ok-entry_at.field-0, c.in_ok-entry_at.ensures.entry, c.in_err-push_entry.ensures.refusal)))

-- all of them
pub returns-clause-entries : goal.returns-clause-entries
returns-clause-entries c =
    entries_all view IsEntryOf c.args.given.now c.loop-place.place c.loop-place.all.items c.loop-place-test.false c.loop-place.invariant
