use Rattle.std.proofs.Common.{◌≡◌}
use Rattle.std.specs.Str.Iter.{split_steps}
use Rattle.std.specs.Str.Pattern.{FindsChar}
use Rattle.std.specs.List.{list_all}
use Rattle.ariadne_show.specs.Wrapped.{is_within, lines_in}
use Rattle.ariadne_show.proofs.InRows.{HangsOn}
use Rattle.ariadne_show.proofs.wrapping.are_within.Given as goal

-- on the rows that are left it hangs whether all are
abbrev pub invariant-loop-row : goal.invariant-loop-row
invariant-loop-row l =
    HangsOn (split_steps FindsChar (λ a b. b ≡ a)) (λ x. x.now) (is_within l.width) l.row-iterator
    (list_all (is_within l.width) (lines_in l.rows))
