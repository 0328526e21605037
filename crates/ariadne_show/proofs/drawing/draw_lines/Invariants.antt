use Rattle.std.specs.Prelude.{take}
use Rattle.ariadne_show.specs.Drawn.{AreSaid}
use Rattle.ariadne_show.specs.TextDiagnostics.{said_texts}
use Rattle.ariadne_show.proofs.drawing.draw_lines.Given as goal

-- the texts that are passed have been drawn
abbrev pub invariant-loop-text : goal.invariant-loop-text
invariant-loop-text g l =
    AreSaid l.style (said_texts (take l.text-index l.text-items)) (g.W.Write.contents l.initial.out) (g.W.Write.contents l.out)
