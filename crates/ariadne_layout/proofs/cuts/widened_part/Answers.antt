use Rattle.std.proofs.Common.{◌≡◌, ◌+◌, rules}
use Rattle.ariadne_layout.proofs.CutParts.{widened-is}
use Rattle.ariadne_layout.proofs.cuts.widened_part.Goals as goal

-- its ends are those of letters
pub returns : goal.returns
returns c = λ t text held size.
    let to : c.in_ok-to.to ≡ c.args.part.now.to + c.args.count = search rules in
    widened-is t text c.args.count c.args.part.now c.letter_start.result c.letter_end.result c.saturating_sub.result c.in_ok-to.to
    (c.letter_start.ensures t text held size) c.saturating_sub.ensures (c.letter_end.ensures t text held size) to
