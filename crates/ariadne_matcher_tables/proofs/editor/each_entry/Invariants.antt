use Rattle.std.proofs.Common.{map, take}
use Rattle.serde_json.specs.View.{view}
use Rattle.ariadne_matcher_tables.specs.Editors.{AreEntriesAt}
use Rattle.ariadne_matcher_tables.proofs.editor.each_entry.Given as goal

-- the entries so far
abbrev pub invariant-loop-place : goal.invariant-loop-place
invariant-loop-place l = AreEntriesAt (map view (take l.place l.given)) l.all.items
