use Rattle.std.proofs.Common.{◌∙◌, ◌-◌, ap, arith, Some}
use Rattle.std.specs.Prelude.{ℕ, option_map}
use Rattle.ariadne_parse.specs.declared.diagnostic.QuotedLine.{QuotedLine}
use Rattle.ariadne_show.specs.Quoted.{lines_about, lines_near}
use Rattle.ariadne_show.proofs.Quoting.{greatest_above, least_below}
use Rattle.ariadne_show.proofs.quoted.lines_of.Goals as goal

-- the first and the last of those near the one that is quoted first
pub returns-clause-lines : goal.returns-clause-lines
returns-clause-lines c =
    (λ k. Some ((c.saturating_sub.ensures ∙ ap (λ (n : ℕ). n - 1) c.first_near.ensures) k, c.last_near.ensures k))
    ∙ ap (option_map (λ (it : QuotedLine). lines_about c.args.path.now c.args.quoted.now it.line)) c.in_ok-near.ensures

-- the first is not behind that one, and the last not in front of it
pub returns-clause-forward : goal.returns-clause-forward
returns-clause-forward c =
    let near = c.in_ok-near.field-0.now.line in
    let lines = lines_near c.args.path.now near c.args.quoted.now in
    omega (arith, c.saturating_sub.ensures, c.first_near.ensures, c.last_near.ensures, least_below near lines, greatest_above near lines)
