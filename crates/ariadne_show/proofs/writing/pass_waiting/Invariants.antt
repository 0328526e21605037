use Rattle.std.specs.Prelude.{take}
use Rattle.ariadne_show.specs.WaitingLines.{passing_of}
use Rattle.ariadne_show.specs.Writing.{out_of, HavePassed}
use Rattle.ariadne_show.proofs.writing.pass_waiting.Given as goal

-- the lines so far have passed
abbrev pub invariant-loop-waiting : goal.invariant-loop-waiting
invariant-loop-waiting g l = HavePassed l.options (passing_of (take l.waiting-index l.lines))
    (out_of l.initial.shown l.initial.streams)
    (out_of l.shown l.streams)
