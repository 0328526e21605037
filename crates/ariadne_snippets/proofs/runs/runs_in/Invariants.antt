use Rattle.std.proofs.Common.{◌≡◌, ◌+◌, ◌*◌, ◌≤◌, drop}
use Rattle.ariadne_snippets.specs.Marks.{runs_from}
use Rattle.ariadne_snippets.proofs.Joining.{all_joined}
use Rattle.ariadne_snippets.proofs.runs.runs_in.Given as goal

-- the runs so far, joined with those of the rest
abbrev pub invariant-loop-byte : goal.invariant-loop-byte
invariant-loop-byte l =
    (l.column ≤ l.start + 8 * l.byte-index)
    × (all_joined l.runs.items (runs_from l.unit l.column (drop l.byte-index l.row))
    ≡ runs_from l.unit l.start l.row)
