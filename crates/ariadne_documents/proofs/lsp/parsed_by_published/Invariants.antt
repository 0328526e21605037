use Rattle.std.specs.Prelude.{◌≡◌, ◌++◌, drop, map}
use Rattle.serde_json.specs.View.{items_view}
use Rattle.ariadne_parse.specs.Read.{read}
use Rattle.ariadne_sarif.specs.DocumentParts.{parsed_each}
use Rattle.ariadne_documents.specs.Lsp.{published_read}
use Rattle.ariadne_documents.proofs.lsp.parsed_by_published.Given as goal

-- the diagnostics so far and those that are still to come are all
abbrev pub invariant-loop-value : goal.invariant-loop-value
invariant-loop-value l =
    map read l.all.items ++ parsed_each (published_read l.file) (items_view (drop l.value-index l.values))
    ≡ parsed_each (published_read l.fn.file) (items_view l.fn.values)
