-- so far the first copies are written
use Rattle.std.proofs.Common.{◌≡◌, ◌++◌, string_bytes}
use Rattle.ariadne_picture.specs.Pieces.{repeated}
use Rattle.ariadne_render.proofs.runs.push_texts.Given as goal

abbrev pub invariant-loop-turn : goal.invariant-loop-turn
invariant-loop-turn l = string_bytes l.out ≡ string_bytes l.fn.out ++ repeated l._turn l.text
