use Rattle.std.proofs.Common.{All}
use Rattle.ariadne_snippets.specs.Snippets.{inner_at, IsLabelIn}
use Rattle.ariadne_snippets.proofs.quoted.Quoted.take_labels.Given as goal

-- what was found are labels of the row
abbrev pub invariant-loop-piece : goal.invariant-loop-piece
invariant-loop-piece l = All (IsLabelIn l.self.runs.items (inner_at l.self) l.row) l.labels.items
