use Rattle.std.proofs.Common.{◌≡◌, ◌∙◌, ap, length, min, rules}
use Rattle.ariadne_matchers.proofs.Lists.{behind_place}
use Rattle.ariadne_matchers.specs.Catches.{caught_at}
use Rattle.ariadne_matchers.specs.Lasts.{is_taken_before}
use Rattle.ariadne_matchers.proofs.reader.Fit.takes_in.Goals as goal

-- the lines from this one on
pub returns : goal.returns
returns c =
    let at : c.min.result ≡ min c.args.place (length c.as_slice-lines.result.now) = search rules in
    c.is_taken.ensures
    ∙ ap is_taken_before
    (behind_place caught_at c.as_slice-lines.result.now c.args.self.now.lines.items c.args.place c.min.result c.as_slice-lines.ensures.value at)
