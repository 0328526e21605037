use Rattle.std.proofs.Common.{◌∙◌, rules}
use Rattle.ariadne_layout.proofs.PartColumns.{behind-after, behind-before, behind-no}
use Rattle.ariadne_layout.proofs.cuts.mark_behind.Goals as goal

-- the last part ends before the end
pub returns-in-Some : goal.returns-in-Some
returns-in-Some c =
    c.mark_columns.ensures ∙ behind-before c.args.set c.args.parts.now c.in-Some.part.now c.args.end (search rules) c.if-part-end.true

-- or there, or behind it
pub returns-in_default : goal.returns-in_default
returns-in_default c = behind-after c.args.set c.args.parts.now c.in-Some.part.now c.args.end (search rules) (search rules)

-- or there is none
pub returns-in_default-2 : goal.returns-in_default-2
returns-in_default-2 c = behind-no c.args.set c.args.parts.now c.args.end (search rules)
