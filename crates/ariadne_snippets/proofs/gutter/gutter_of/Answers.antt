use Rattle.std.proofs.Common.{sym, rules}
use Rattle.ariadne_snippets.specs.Gutters.{gutter_in}
use Rattle.ariadne_snippets.proofs.Endings.{gutter_ends}
use Rattle.ariadne_snippets.proofs.gutter.gutter_of.Goals as goal

-- the gutter of the line
pub returns-clause-parts : goal.returns-clause-parts
unfolding gutter_in
returns-clause-parts c = search rules

-- its text ends the line
pub returns-clause-end : goal.returns-clause-end
returns-clause-end c =
    gutter_ends c.args.line.now
    (record { number = c.in_ok-number.number; bar = c.saturating_sub.result; text = c.without-2.result.now })
    (sym (returns-clause-parts c))
