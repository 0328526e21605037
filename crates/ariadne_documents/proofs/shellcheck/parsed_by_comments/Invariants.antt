use Rattle.std.specs.Prelude.{◌≡◌, ◌++◌, drop, map}
use Rattle.serde_json.specs.View.{items_view}
use Rattle.ariadne_parse.specs.Read.{read}
use Rattle.ariadne_sarif.specs.DocumentParts.{parsed_each}
use Rattle.ariadne_documents.specs.Shellcheck.{comment_read}
use Rattle.ariadne_documents.proofs.shellcheck.parsed_by_comments.Given as goal

-- the diagnostics so far and those that are still to come are all
abbrev pub invariant-loop-comment : goal.invariant-loop-comment
invariant-loop-comment l =
    map read l.all.items ++ parsed_each comment_read (items_view (drop l.comment-index l.comments))
    ≡ parsed_each comment_read (items_view l.fn.comments)
