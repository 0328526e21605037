use Rattle.std.proofs.Common.{◌≡◌, take}
use Rattle.std.specs.Prelude.{map, string_bytes}
use Rattle.ariadne_parse.specs.Spans.{seen}
use Rattle.ariadne_blocks.specs.MarkMeanings.{with_labels}
use Rattle.ariadne_blocks.proofs.rows.Rows.add_labels.Given as goal

-- the texts that are passed were said
abbrev pub invariant-loop-label : goal.invariant-loop-label
invariant-loop-label l =
    map seen l.spans.items
    ≡ with_labels (string_bytes l.self.path) l.self.marked.items (take l.label-index l.labels)
    (map seen l.initial.spans.items)
