use Rattle.std.proofs.Common.{rules}
use Rattle.ariadne_show.proofs.Blanks.{blanks_boundary}
use Rattle.ariadne_show.proofs.front.behind_blanks.Goals as goal

-- a text may be cut behind blanks
pub range_from-requires : goal.range_from-requires
range_from-requires c = λ some. blanks_boundary c.args.text.now c.args.margin (search rules) c.utf8.text
