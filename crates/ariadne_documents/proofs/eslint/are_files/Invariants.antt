use Rattle.std.specs.Prelude.{◌≡◌, drop}
use Rattle.serde_json.specs.View.{items_view}
use Rattle.ariadne_parse.specs.Members.{all_items}
use Rattle.ariadne_documents.specs.Eslint.{is_file}
use Rattle.ariadne_documents.proofs.eslint.are_files.Given as goal

-- those that are left pass where all do
abbrev pub invariant-loop-value : goal.invariant-loop-value
invariant-loop-value l =
    all_items is_file (items_view (drop l.value-index l.values)) ≡ all_items is_file (items_view l.fn.values)
