use Rattle.std.proofs.Common.{◌∙◌, ap, sym, inl, inr, option_copied}
use Rattle.ariadne_layout.proofs.LabelRuns.{better-second, better-first, better-only}
use Rattle.ariadne_layout.proofs.label_runs.better_one.Goals as goal
use Rattle.ariadne_layout.proofs.label_runs.better_one.Goals.{in_default-via-in-Some+in_default, in_default-via-in_default}

-- one of them is none
pub returns-in_default : goal.returns-in_default
returns-in_default c =
    ap option_copied c.or.ensures
    ∙ better-only c.args.first c.args.second (elim c.in_default.branch [
      | in_default-via-in-Some+in_default w ↦ inr w.in_default.is-1
      | in_default-via-in_default w ↦ inl w.in_default.is-0
    ])

-- the second is preferred
pub returns-then-is_preferred_to : goal.returns-then-is_preferred_to
returns-then-is_preferred_to c =
    better-second c.args.first c.args.second c.in-Some-Some.a c.in-Some-Some.b c.in-Some-Some.is-0 c.in-Some-Some.is-1
    (sym c.is_preferred_to.ensures ∙ c.if-is_preferred_to.true)

-- it is not
pub returns-else-is_preferred_to : goal.returns-else-is_preferred_to
returns-else-is_preferred_to c =
    better-first c.args.first c.args.second c.in-Some-Some.a c.in-Some-Some.b c.in-Some-Some.is-0 c.in-Some-Some.is-1
    (sym c.is_preferred_to.ensures ∙ c.if-is_preferred_to.false)
