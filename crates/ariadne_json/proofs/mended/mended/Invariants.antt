use Rattle.std.proofs.Common.{◌≡◌, ◌≤◌, ◌+◌, ◌++◌, length}
use Rattle.ariadne_json.specs.Cuts.{pieces}
use Rattle.ariadne_json.specs.Mended.{all_written, mended}
use Rattle.ariadne_json.specs.Pieces.{piece_len}
use Rattle.ariadne_json.proofs.mended.mended.Given as goal

-- what is written, and what is to be written of the rest at its depth, which is no more than what is passed
abbrev pub invariant-loop-first : goal.invariant-loop-first
invariant-loop-first l = record {
  written : l.out.items ++ all_written l.depth (pieces piece_len l.rest) ≡ mended l.fn.text;
  low : l.depth + length l.rest ≤ length l.fn.text;
}

-- the rest gets shorter
abbrev pub decreases-loop-first : goal.decreases-loop-first
decreases-loop-first l = length l.rest
