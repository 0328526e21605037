use Rattle.std.specs.Io.KnownBytes.{Keeps}
use Rattle.ariadne.specs.Retrying.{writer_of}
use Rattle.ariadne.proofs.retry.RetryInterruptedWrite.write.Given as goal

abbrev pub invariant-loop : goal.invariant-loop
invariant-loop g l = Keeps (g.W.Write.contents (writer_of l.initial.self)) (g.W.Write.contents (writer_of l.self))
