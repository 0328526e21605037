-- The sequences of the code, as `Sequences` speaks of them.
use Rattle.ariadne_outputs.specs.Sequences.{Sequence}
use Rattle.ariadne_outputs.specs.declared.sequence.Sequence.{Sequence as CodeSequence}

-- a sequence, with its texts
abbrev pub sequence_of : CodeSequence → Sequence
sequence_of sequence = record {
  parameters = sequence.parameters.now;
  is_paint = sequence.is_paint;
  behind = sequence.behind.now;
}
