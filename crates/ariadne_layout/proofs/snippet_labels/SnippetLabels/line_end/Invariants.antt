-- The events so far are on the line of the first.
use Rattle.std.proofs.Common.{◌≡◌, ℕ, ◌-◌, ◌<◌, ◌≤◌, length, Some}
use Rattle.std.specs.Prelude.{slice_get}
use Rattle.ariadne_layout.specs.declared.snippet_labels.Event.{Event}
use Rattle.ariadne_layout.proofs.snippet_labels.SnippetLabels.line_end.Given as goal

abbrev pub invariant-loop-end : goal.invariant-loop-end
invariant-loop-end l = record {
  behind : l.from < l.end;
  within : l.end ≤ length l.events;
  on_line : (k : ℕ) (e : Event) → l.from ≤ k → k < l.end → slice_get l.events k ≡ Some e → e.line ≡ l.line;
}

abbrev pub decreases-loop-end : goal.decreases-loop-end
decreases-loop-end l = length l.events - l.end
