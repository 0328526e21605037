-- what is written and the copies that are left are all
use Rattle.std.proofs.Common.{◌≡◌, ◌++◌, encode_utf8, string_bytes}
use Rattle.ariadne_picture.specs.Pieces.{repeated}
use Rattle.ariadne_render.proofs.runs.push_repeated.Given as goal

abbrev pub invariant-loop-left : goal.invariant-loop-left
invariant-loop-left l = string_bytes l.out ++ repeated l.left (encode_utf8 l.fn.c) ≡ string_bytes l.fn.out ++ repeated l.count (encode_utf8 l.fn.c)

abbrev pub decreases-loop-left : goal.decreases-loop-left
decreases-loop-left l = l.left
