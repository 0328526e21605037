-- Piece by piece, and then row by row.
use Rattle.ariadne_picture.proofs.Sent.LinesSent.{rows-are-lines}
use Rattle.ariadne_picture.proofs.laws.rows_are_lines.Goals as goal

pub returns : goal.returns
returns g c w r infos none one = rows-are-lines w r infos none one
