-- so far the first copies are written
use Rattle.std.proofs.Common.{◌≡◌, ◌++◌, encode_utf8, string_bytes}
use Rattle.ariadne_picture.specs.Pieces.{repeated}
use Rattle.ariadne_render.proofs.runs.push_one_by_one.Given as goal

abbrev pub invariant-loop-turn : goal.invariant-loop-turn
invariant-loop-turn l = string_bytes l.out ≡ string_bytes l.fn.out ++ repeated l._turn (encode_utf8 l.c)
