-- The part of each label that has a message has its place.
use Rattle.ariadne_picture.proofs.Cells.CutLines.{label-seen}
use Rattle.ariadne_picture.proofs.laws.strokes_lead_to_what_is_seen.Goals as goal

pub returns : goal.returns
returns c s l k x there told = label-seen s l k x there told
