use Rattle.std.specs.List.{All}
use Rattle.ariadne_snippets.specs.Snippets.{inner_at, IsLabelIn}
use Rattle.ariadne_snippets.proofs.Endings.{end_of_all, in_by_end}
use Rattle.ariadne_snippets.proofs.plain.row_below.Goals as goal

-- the line is a row of labels
pub returns-in-Some-clause-tells : goal.returns-in-Some-clause-tells
returns-in-Some-clause-tells c =
    let line = c.args.line.now in
    let all : All (IsLabelIn c.take_labels.new.self.runs.items (inner_at c.take_labels.new.self) line) c.in-Some.labels.items =
    rw c.in-Some.is at (c.in_ok-labels.ensures).labels in
    (line, in_by_end line line (end_of_all line), all)
