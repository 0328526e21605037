use Rattle.std.specs.Prelude.{◌≡◌, ◌++◌, drop, map}
use Rattle.serde_json.specs.View.{items_view}
use Rattle.ariadne_parse.specs.Read.{read}
use Rattle.ariadne_sarif.specs.DocumentParts.{parsed_each}
use Rattle.ariadne_documents.specs.Vet.{vetted_read}
use Rattle.ariadne_documents.proofs.vet.push_vetted.Given as goal

-- the diagnostics so far and those that are still to come are all
abbrev pub invariant-loop-value : goal.invariant-loop-value
invariant-loop-value l =
    map read l.all.items ++ parsed_each (vetted_read l.name) (items_view (drop l.value-index l.values))
    ≡ map read l.initial.all.items ++ parsed_each (vetted_read l.fn.name) (items_view l.fn.values)
