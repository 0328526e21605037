use Rattle.std.specs.Prelude.{◌≡◌, drop}
use Rattle.serde_json.specs.View.{items_view}
use Rattle.ariadne_parse.specs.Read.{read}
use Rattle.ariadne_documents.specs.Eslint.{with_suggestions}
use Rattle.ariadne_documents.proofs.eslint.push_suggestions.Given as goal

-- the diagnostic so far, with the suggestions that are still to come, has all
abbrev pub invariant-loop-suggestion : goal.invariant-loop-suggestion
invariant-loop-suggestion l =
    with_suggestions l.file l.source (items_view (drop l.suggestion-index l.suggestions)) (read l.parsed)
    ≡ with_suggestions l.fn.file l.fn.source (items_view l.fn.suggestions) (read l.initial.parsed)
