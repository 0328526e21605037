use Rattle.std.proofs.Common.{◌≡◌, length, min, refl, rules}
use Rattle.ariadne_matchers.proofs.Lists.{behind_place}
use Rattle.ariadne_matchers.proofs.rows.behind.Goals as goal

-- the rest looks like the rest of what the lines look like
pub returns : goal.returns
returns c =
    let at : c.min.result ≡ min (length c.args.taken.now) (length c.args.lines.now) = search rules in
    behind_place (λ line. line.now) c.args.lines.now c.args.lines.now (length c.args.taken.now) c.min.result refl at
