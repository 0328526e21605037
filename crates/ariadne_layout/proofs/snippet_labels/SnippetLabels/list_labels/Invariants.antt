-- The list has the labels of the events so far.
use Rattle.std.proofs.Common.{◌≡◌, take}
use Rattle.ariadne_layout.specs.SnippetLabels.{labels_of}
use Rattle.ariadne_layout.proofs.snippet_labels.SnippetLabels.list_labels.Given as goal

abbrev pub invariant-loop-event : goal.invariant-loop-event
invariant-loop-event l = l.list.items ≡ labels_of l.self.labels (take l.event-index l.event-items)
