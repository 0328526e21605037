use Rattle.std.proofs.Common.{◌+◌, ◌++◌, [], option_copied, option_to_list}
use Rattle.ariadne_layout.specs.Candidates.{infos_among}
use Rattle.ariadne_layout.specs.Choices.{IsChoice, infos_of, numbered}
use Rattle.ariadne_layout.proofs.candidates.Candidates.choose.Goals as goal
use Rattle.ariadne_layout.proofs.candidates.Candidates.choose.Goals.{After-with_numbered-choice}

-- the margin label and the multi-line labels are considered
others : (c : After-with_numbered-choice)
    → IsChoice (infos_of (option_to_list (option_copied c.args.self.now.margin)) ++ numbered c.args.self.now.multi_line.now c.args.self.now.touching.now)
    (c.args.offset + c.args.place) c.args.len c.with_numbered-choice.result
others c =
    let start = c.args.offset + c.args.place in
    let margin = infos_of (option_to_list (option_copied c.args.self.now.margin)) in
    c.with_numbered-choice.ensures margin start c.args.len (c.with_margin.ensures [] start c.args.len c.new.ensures)

-- and then the labels that lie within the line
pub returns-then-self : goal.returns-then-self
unfolding infos_among
returns-then-self c =
    let start = c.args.offset + c.args.place in
    rw c.if-self.true (c.with_inline.ensures _ start c.args.len (others (goal.at.returns-then-self c).After-with_numbered-choice))

-- or all labels of the line
pub returns-else-self : goal.returns-else-self
unfolding infos_among
returns-else-self c =
    let start = c.args.offset + c.args.place in
    rw c.if-self.false (c.with_labels.ensures _ start c.args.len (others (goal.at.returns-else-self c).After-with_numbered-choice))
