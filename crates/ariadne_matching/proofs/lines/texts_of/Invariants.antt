use Rattle.std.proofs.Common.{◌≡◌, take}
use Rattle.std.specs.Prelude.{map}
use Rattle.ariadne_matchers.specs.MatchedRows.{texts}
use Rattle.ariadne_matching.specs.HandedOver.{text_in}
use Rattle.ariadne_matching.proofs.lines.texts_of.Given as goal

-- the texts of the lines so far
abbrev pub invariant-loop-line : goal.invariant-loop-line
invariant-loop-line l = texts l.all.items ≡ map text_in (take l.line-index l.lines)
