use Rattle.std.proofs.Common.{◌∙◌, ◌≤◌, ap, subst, sym}
use Rattle.std.specs.Prelude.{unwrap_or}
use Rattle.ariadne_edits.proofs.Bodies.{columns-le}
use Rattle.ariadne_edits.proofs.body.columns_of.Goals as goal

-- no character takes more
pub returns-clause-most : goal.returns-clause-most
returns-clause-most c =
    subst (λ n. n ≤ 3) (sym (c.unwrap_or.ensures ∙ ap (λ w. unwrap_or w 1) c.width.ensures.value)) (columns-le c.args.c)
