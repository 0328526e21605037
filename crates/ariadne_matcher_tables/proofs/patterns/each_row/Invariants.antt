use Rattle.std.proofs.Common.{map, take}
use Rattle.std.specs.List.{AllZip}
use Rattle.toml.specs.View.{view}
use Rattle.ariadne_matcher_tables.specs.Patterns.{IsRowOf}
use Rattle.ariadne_matcher_tables.proofs.patterns.each_row.Given as goal

-- the rows so far
abbrev pub invariant-loop-value : goal.invariant-loop-value
invariant-loop-value l = AllZip IsRowOf (map view (take l.value-index l.given)) l.rows.items
