-- so far the first blanks are written, and there is room for the others
use Rattle.std.proofs.Common.{◌≡◌, ◌+◌, ◌≤◌, ◌++◌, string_bytes, string_len}
use Rattle.std.specs.String.{string_capacity}
use Rattle.ariadne_picture.specs.Pieces.{spaces}
use Rattle.ariadne_render.proofs.gutter.push_blanks.Given as goal

abbrev pub invariant-loop-turn : goal.invariant-loop-turn
invariant-loop-turn l = record {
  bytes : string_bytes l.out ≡ string_bytes l.fn.out ++ spaces l._turn;
  len : string_len l.out ≡ string_len l.fn.out + l._turn;
  room : string_capacity l.fn.out ≤ string_capacity l.out;
}
