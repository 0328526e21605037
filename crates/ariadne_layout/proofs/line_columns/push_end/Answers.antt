use Rattle.std.proofs.Common.{rules}
use Rattle.ariadne_layout.proofs.Knots.{hold-behind, hold-end}
use Rattle.ariadne_layout.proofs.PartColumns.{behind-after, behind-no}
use Rattle.ariadne_layout.proofs.line_columns.push_end.Goals as goal

-- the mark has a place
pub returns-in-Some : goal.returns-in-Some
returns-in-Some c = λ f held flat.
    hold-behind f c.push_place.result c.args.knots.now.items c.push_place.new.knots.items c.args.column c.args.set c.args.parts.now c.in-Some.part.now c.args.end
    c.mark_columns.result c.mark_columns.ensures (search rules) c.if-part-end.true held flat (c.push_place.ensures f c.in-Some.part.now.to)

-- there is none
pub returns-in_default : goal.returns-in_default
returns-in_default c = λ f held flat.
    hold-end f c.args.knots.now.items c.args.column c.args.set c.args.parts.now c.args.end held flat
    (behind-after c.args.set c.args.parts.now c.in-Some.part.now c.args.end (search rules) (search rules))

pub returns-in_default-2 : goal.returns-in_default-2
returns-in_default-2 c = λ f held flat.
    hold-end f c.args.knots.now.items c.args.column c.args.set c.args.parts.now c.args.end held flat (behind-no c.args.set c.args.parts.now c.args.end (search rules))
