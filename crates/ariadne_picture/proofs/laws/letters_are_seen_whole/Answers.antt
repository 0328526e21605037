-- No part begins or ends within a letter.
use Rattle.ariadne_picture.proofs.Cells.CutLines.{letters-whole}
use Rattle.ariadne_picture.proofs.laws.letters_are_seen_whole.Goals as goal

pub returns : goal.returns
returns c s l k on = letters-whole s l k on
