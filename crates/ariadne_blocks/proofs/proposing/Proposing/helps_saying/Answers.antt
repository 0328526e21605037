use Rattle.std.proofs.Common.{◌∙◌, ap, sym}
use Rattle.std.specs.Prelude.{if◌then◌else◌}
use Rattle.ariadne_blocks.proofs.Proposed.{in_lines}
use Rattle.ariadne_blocks.proofs.proposing.Proposing.helps_saying.Goals as goal

-- each line that is drawn is changed
pub returns-then-change_all : goal.returns-then-change_all
returns-then-change_all c =
    let by = c.args.self.now in
    ap (λ b. if b then (by.helps.start, by.helps.end) else (by.helps.start, by.helps.start))
    (sym c.if-change_all.true ∙ c.change_all.ensures ∙ in_lines by.drawn.now c.args.ways.now)

-- or one isn't
pub returns-else-change_all : goal.returns-else-change_all
returns-else-change_all c =
    let by = c.args.self.now in
    ap (λ b. if b then (by.helps.start, by.helps.end) else (by.helps.start, by.helps.start))
    (sym c.if-change_all.false ∙ c.change_all.ensures ∙ in_lines by.drawn.now c.args.ways.now)
