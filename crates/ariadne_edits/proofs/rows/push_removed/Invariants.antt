use Rattle.ariadne_base.specs.Listing.{listed_lines}
use Rattle.ariadne_edits.specs.Counterparts.{EndInRun}
use Rattle.ariadne_edits.specs.KeptLines.{KeepAlso}
use Rattle.ariadne_edits.specs.SuggestionRows.{TellFirst}
use Rattle.ariadne_edits.proofs.rows.push_removed.Given as goal

abbrev pub invariant-loop-i : goal.invariant-loop-i
invariant-loop-i l =
    (TellFirst (listed_lines l.old) (listed_lines l.new) l.run.old_from l.run.new_from l.initial.rows.items
    → TellFirst (listed_lines l.old) (listed_lines l.new) l.i l.run.new_from l.rows.items)
    × KeepAlso l.initial.rows.items l.rows.items
    × (EndInRun (l.run.old_from, l.run.new_from) (l.run.old_to, l.run.new_to) l.initial.rows.items
    → EndInRun (l.run.old_from, l.run.new_from) (l.run.old_to, l.run.new_to) l.rows.items)
