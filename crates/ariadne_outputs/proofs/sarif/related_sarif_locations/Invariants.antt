use Rattle.std.proofs.Common.{◌≡◌, map, take}
use Rattle.serde_json.specs.View.{view}
use Rattle.ariadne_outputs.specs.Located.{located_spans_of}
use Rattle.ariadne_outputs.specs.Sarif.{related_datas}
use Rattle.ariadne_outputs.proofs.sarif.related_sarif_locations.Given as goal

-- the locations so far are there
abbrev pub invariant-loop-index : goal.invariant-loop-index
invariant-loop-index l = map view l.all.items ≡ related_datas 1 (located_spans_of (take l.index l.spans))
