use Rattle.std.proofs.Common.{ℕ, List, ap, subst}
use Rattle.std.specs.Prelude.{Vec}
use Rattle.std.specs.declared.alloc.Global.{Global}
use Rattle.ariadne_matching.specs.SettledLines.{IsHandedFor}
use Rattle.ariadne_matching.specs.declared.lines.Waiting.{Waiting}
use Rattle.ariadne_matching.proofs.Settled.{settled_then}
use Rattle.ariadne_matching.proofs.Telling.{handed_for}
use Rattle.ariadne_matching.proofs.settling.MatchedLines.settle_first.Goals as goal

-- the first line passes
pub returns-then-branch-2 : goal.returns-then-branch-2
returns-then-branch-2 g c =
    settled_then _ _ _ _ _ _ _ _ c.in_ok-go_on.ensures (ap (λ (lines : Vec Waiting Global). lines.items) c.passes.ensures.waiting)
    (ap (λ (bytes : Vec ℕ Global). bytes.items) c.passes.ensures.ready) c.in_ok-pass_first.ensures

-- the report is one of the lines that wait
pub hand_over-requires : goal.hand_over-requires
hand_over-requires g c =
    subst (λ (lines : List Waiting). IsHandedFor lines c.in-Report.report) c.as_slice.ensures.value
    (handed_for _ _ _ _ _ c.in-Report.is c.in_ok-told.ensures)

-- the first line tells nothing
pub returns-in_ok-pass_first-in-Nothing : goal.returns-in_ok-pass_first-in-Nothing
returns-in_ok-pass_first-in-Nothing g c =
    settled_then _ _ _ _ _ _ _ _ c.in_ok-go_on.ensures (ap (λ (lines : Vec Waiting Global). lines.items) c.passes.ensures.waiting)
    (ap (λ (bytes : Vec ℕ Global). bytes.items) c.passes.ensures.ready) c.in_ok-pass_first-in-Nothing.ensures

-- the first lines tell what the report says
pub returns-in_ok-hand_over-in-Report : goal.returns-in_ok-hand_over-in-Report
returns-in_ok-hand_over-in-Report g c =
    settled_then _ _ _ _ _ _ _ _ c.in_ok-go_on.ensures (ap (λ (lines : Vec Waiting Global). lines.items) c.passes.ensures.waiting)
    (ap (λ (bytes : Vec ℕ Global). bytes.items) c.passes.ensures.ready) c.in_ok-hand_over-in-Report.ensures
