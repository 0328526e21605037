-- No text is cut, and one that is not has no list.
use Rattle.ariadne_picture.proofs.Cells.CutLines.{whole-seen}
use Rattle.ariadne_picture.proofs.laws.lines_are_whole_without_a_width.Goals as goal

pub returns : goal.returns
returns c s l k none = whole-seen s l k none
