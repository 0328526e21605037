use Rattle.std.proofs.Common.{map, take}
use Rattle.toml.specs.View.{view}
use Rattle.ariadne_matcher_tables.specs.MatcherTables.{AreEntries}
use Rattle.ariadne_matcher_tables.proofs.entries.each_entry.Given as goal

-- the entries so far
abbrev pub invariant-loop-place : goal.invariant-loop-place
invariant-loop-place l = AreEntries (map view (take l.place l.given)) l.all.items
