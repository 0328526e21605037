use Rattle.std.proofs.Common.{refl, sym, ◌∙◌, ◌==◌}
use Rattle.std.proofs.lemmas.Bool.{eqb-true, false_from_ne_true}
use Rattle.ariadne_base.specs.Lines.{ends_line}
use Rattle.ariadne_base.proofs.source.scan.ends_line.Goals as goal
use Rattle.ariadne_base.proofs.source.scan.ends_line.Goals.{then-c-eq13, else-c-eq13}

-- a separator ends its line unless it is CR before LF
pub returns-after-c-eq13 : goal.returns-after-c-eq13
unfolding ends_line
returns-after-c-eq13 c =
    let separates = sym c.is_separator.ensures ∙ c.if-is_separator.true in
    elim c.if-c-eq13.branch [
      | then-c-eq13 w ↦ rw (separates, w.result-is, w.begins_with_line_feed.ensures, w.if-c-eq13.true) refl
      | else-c-eq13 w ↦ rw
          (separates, w.result-is, false_from_ne_true (c.args.c == 13) (λ t. w.if-c-eq13.false (eqb-true c.args.c 13 t))) refl
    ]

-- no other character ends a line
pub returns-else-is_separator : goal.returns-else-is_separator
unfolding ends_line
returns-else-is_separator c = rw (← c.is_separator.ensures, c.if-is_separator.false) refl
