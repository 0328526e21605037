use Rattle.ariadne_layout.proofs.CutParts.{whole-width-held}
use Rattle.ariadne_layout.proofs.cuts.place_width.Goals as goal

-- the columns between its own and the next
pub returns : goal.returns
returns c = λ t text held below. whole-width-held t text c.args.columns.now c.args.place c.width.result held below c.width.ensures
