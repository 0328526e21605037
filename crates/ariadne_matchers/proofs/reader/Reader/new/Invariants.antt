use Rattle.std.proofs.Common.{◌≡◌, take}
use Rattle.std.specs.List.{filter}
use Rattle.std.specs.Prelude.{map, option_map}
use Rattle.ariadne_matchers.specs.Readers.{is_read_by}
use Rattle.ariadne_matchers.specs.MatchedRows.{entry_in, rows_of}
use Rattle.ariadne_matchers.proofs.ReadEntries.{searched}
use Rattle.ariadne_matchers.proofs.reader.Reader.new.Given as goal

-- the entries so far that are read, and their rows
abbrev pub invariant-loop-entry : goal.invariant-loop-entry
invariant-loop-entry l = record {
  entries : map searched l.entries.items ≡ filter (is_read_by (option_map (λ tool. tool.now) l.tool)) (take l.entry-index l.entry-items);
  rows : map rows_of l.entries.items ≡ map entry_in (map searched l.entries.items);
}
