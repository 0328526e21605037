use Rattle.std.specs.Prelude.{◌≡◌, ◌++◌, drop, map}
use Rattle.serde_json.specs.View.{items_view}
use Rattle.ariadne_parse.specs.Members.{flat_items}
use Rattle.ariadne_parse.specs.Read.{read}
use Rattle.ariadne_documents.specs.Eslint.{file_parsed}
use Rattle.ariadne_documents.proofs.eslint.parsed_by_files.Given as goal

-- the diagnostics so far and those that are still to come are all
abbrev pub invariant-loop-file : goal.invariant-loop-file
invariant-loop-file l =
    map read l.all.items ++ flat_items file_parsed (items_view (drop l.file-index l.files))
    ≡ flat_items file_parsed (items_view l.fn.files)
