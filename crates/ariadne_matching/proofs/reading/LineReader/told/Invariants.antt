use Rattle.std.proofs.Common.{map}
use Rattle.ariadne_matching.specs.HandedOver.{text_in}
use Rattle.ariadne_matching.specs.TriedMatchers.{IsReached}
use Rattle.ariadne_matching.proofs.reading.LineReader.told.Given as goal

-- the entries in front were passed over
abbrev pub invariant-loop : goal.invariant-loop
invariant-loop g l = IsReached l.self.matchers l.is_all (map text_in l.lines) l.from
