use Rattle.std.proofs.Common.{◌≡◌, map, option_map, string_bytes}
use Rattle.std.specs.Prelude.{◌++◌}
use Rattle.std.specs.Slice.Iter.{chunks_rest, chunks_size}
use Rattle.ariadne_commands.specs.ReadWords.{label_asking}
use Rattle.ariadne_commands.specs.Words.{labels_of}
use Rattle.ariadne_commands.proofs.words.read_labels.Given as goal

-- all words ask for the labels so far, and behind them for those that the rest asks for
abbrev pub invariant-loop-three : goal.invariant-loop-three
invariant-loop-three l = record {
  threes : chunks_size l.three-iterator ≡ 3;
  asked : labels_of (map string_bytes l.words)
      ≡ option_map (λ labels. map label_asking l.labels.items ++ labels) (labels_of (map string_bytes (chunks_rest l.three-iterator)));
}
