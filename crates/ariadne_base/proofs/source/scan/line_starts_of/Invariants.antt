use Rattle.std.specs.Str.Iter.{chars_rest}
use Rattle.ariadne_base.proofs.Scanning.{IsScanned}
use Rattle.ariadne_base.proofs.source.scan.line_starts_of.Given as goal

-- the scan stands before the rest of the text
abbrev pub invariant-loop-c : goal.invariant-loop-c
invariant-loop-c l = IsScanned l.text (chars_rest l.rest) l.starts.items l.begun l.at
