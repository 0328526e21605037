use Rattle.std.proofs.Common.{◌≡◌, take}
use Rattle.std.specs.Prelude.{map, option_map, string_bytes}
use Rattle.ariadne_parse.specs.Spans.{seen}
use Rattle.ariadne_blocks.specs.Files.{file_of}
use Rattle.ariadne_blocks.specs.MarkMeanings.{marking_of, with_marks}
use Rattle.ariadne_blocks.proofs.rows.Rows.add_marks.Given as goal

-- the marks that are passed were taken in, and nothing else of the rows changes
abbrev pub invariant-loop-mark : goal.invariant-loop-mark
invariant-loop-mark l = record {
  marks : marking_of l.self l.spans.items
      ≡ with_marks (option_map file_of l.file) (string_bytes l.fn.self.path) l.fn.self.at (take l.mark-index l.marks)
      (map seen l.initial.spans.items);
  others : l.self ≡ record l.fn.self { marked = l.self.marked };
}
