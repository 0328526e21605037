use Rattle.std.specs.Prelude.{◌≡◌, ◌++◌, drop, map}
use Rattle.serde_json.specs.View.{items_view}
use Rattle.ariadne_parse.specs.Spans.{seen}
use Rattle.ariadne_documents.specs.Lsp.{related_spans}
use Rattle.ariadne_documents.proofs.lsp.push_related.Given as goal

-- the spans so far and those that are still to come are all
abbrev pub invariant-loop-value : goal.invariant-loop-value
invariant-loop-value l =
    map seen l.spans.items ++ related_spans (items_view (drop l.value-index l.related))
    ≡ map seen l.initial.spans.items ++ related_spans (items_view l.fn.related)
