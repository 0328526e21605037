use Rattle.std.proofs.Common.{◌≡◌, ◌++◌, drop, length}
use Rattle.ariadne_snippets.specs.Units.{in_units, unit_begins}
use Rattle.ariadne_snippets.proofs.units.in_units.Given as goal

-- the units so far and those that are still to come are all
abbrev pub invariant-loop-c : goal.invariant-loop-c
invariant-loop-c l = record {
  chars : l.chars.items ++ in_units l.units (drop l.c-index l.line) ≡ in_units l.units l.fn.line;
  begins : l.begins.items ++ unit_begins l.units (length l.chars.items) (drop l.c-index l.line)
      ≡ unit_begins l.units 0 l.fn.line;
}
