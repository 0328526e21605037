use Rattle.std.specs.Prelude.{◌≡◌, ◌++◌, drop, map}
use Rattle.serde_json.specs.View.{items_view}
use Rattle.ariadne_parse.specs.Read.{read}
use Rattle.ariadne_documents.specs.Eslint.{message_read}
use Rattle.ariadne_sarif.specs.DocumentParts.{parsed_each}
use Rattle.ariadne_documents.proofs.eslint.push_messages.Given as goal

-- the diagnostics so far and those that are still to come are all
abbrev pub invariant-loop-message : goal.invariant-loop-message
invariant-loop-message l =
    map read l.all.items ++ parsed_each (message_read l.file l.source) (items_view (drop l.message-index l.messages))
    ≡ map read l.initial.all.items ++ parsed_each (message_read l.fn.file l.fn.source) (items_view l.fn.messages)
