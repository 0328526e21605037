use Rattle.std.proofs.Common.{◌∙◌, sym}
use Rattle.ariadne_layout.proofs.Knots.{hold-mark, hold-unmarked}
use Rattle.ariadne_layout.proofs.line_columns.push_before.Goals as goal

-- the mark has a place
pub returns-then-is_marked_before : goal.returns-then-is_marked_before
returns-then-is_marked_before c = λ f a held up behind flat step.
    hold-mark f c.push_place.result c.args.knots.now.items c.push_place.new.knots.items a c.args.column c.args.set c.args.part.now c.args.end
    c.mark_columns.result c.mark_columns.ensures (sym c.is_marked_before.ensures ∙ c.if-is_marked_before.true) behind flat step
    (c.push_place.ensures f a held)

-- or there is none
pub returns-else-is_marked_before : goal.returns-else-is_marked_before
returns-else-is_marked_before c = λ f a held up behind flat step.
    hold-unmarked f c.args.knots.now.items a c.args.column c.args.set c.args.part.now c.args.end held up
    (sym c.is_marked_before.ensures ∙ c.if-is_marked_before.false) flat step
