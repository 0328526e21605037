use Rattle.std.proofs.Common.{map, take}
use Rattle.std.specs.List.{AllZip}
use Rattle.serde_json.specs.View.{view}
use Rattle.ariadne_matcher_tables.specs.Editors.{IsRowAt}
use Rattle.ariadne_matcher_tables.proofs.editor.each_row.Given as goal

-- the rows so far
abbrev pub invariant-loop-value : goal.invariant-loop-value
invariant-loop-value l = AllZip IsRowAt (map view (take l.value-index l.given)) l.rows.items
