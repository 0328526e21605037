use Rattle.std.specs.Prelude.{take}
use Rattle.ariadne_show.specs.WaitingLines.{bytes_in}
use Rattle.ariadne_show.specs.Writing.{out_of, HavePassed}
use Rattle.ariadne_show.proofs.writing.pass_lines.Given as goal

-- the lines so far have passed
abbrev pub invariant-loop-line : goal.invariant-loop-line
invariant-loop-line g l = HavePassed l.options (bytes_in (take l.line-index l.lines))
    (out_of l.initial.shown l.initial.streams)
    (out_of l.shown l.streams)
