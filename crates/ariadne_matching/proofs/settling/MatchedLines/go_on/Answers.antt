use Rattle.std.proofs.Common.{◌≡◌, ◌∙◌, ◌++◌, ap, arith, refl, string_bytes, subst, sym, IfSome, List, Option, String}
use Rattle.std.specs.List.{slice_get}
use Rattle.std.specs.Option.{option_copied}
use Rattle.std.specs.declared.alloc.Global.{Global}
use Rattle.ariadne_matching.specs.SettledLines.{IsToldAgain}
use Rattle.ariadne_matching.specs.declared.lines.Waiting.{Waiting}
use Rattle.ariadne_matching.proofs.Settled.{again_first, first_same, settled_none}
use Rattle.ariadne_matching.proofs.settling.MatchedLines.go_on.Goals as goal
use Rattle.ariadne_matching.proofs.settling.MatchedLines.go_on.Goals.{in_default-via-in-Some+in_default, in_default-via-in_default}

-- no line waits, or no loop goes on
pub returns-in_default : goal.returns-in_default
returns-in_default g c =
    elim c.in_default.branch [
      | in_default-via-in-Some+in_default w ↦ rw w.self-is (settled_none _ _ _ _ refl refl)
      | in_default-via-in_default w ↦ rw w.self-is (settled_none _ _ _ _ refl refl)
    ]

-- a loop goes on with the first line
pub returns-in_ok-extend_from_slice-in-Some : goal.returns-in_ok-extend_from_slice-in-Some
returns-in_ok-extend_from_slice-in-Some g c =
    let old = c.args.self.now in
    let found = c.in-Some-Some.found in
    let line = c.in-Some-Some.line.now in
    let matchers = c.told_again.new.self.matchers in
    let front = c.as_slice.result.now in
    let report = string_bytes c.in-Some.report in
    let is : IsToldAgain matchers found.place front line report =
    subst (λ (it : Option (String Global)). IfSome it (λ r. IsToldAgain matchers found.place front line (string_bytes r))) c.in-Some.is c.in_ok-report.ensures in
    let same : line ≡ c.remove-taken.result =
    first_same old.waiting.items line c.remove-taken.result
    (ap option_copied (sym c.in-Some-Some.is-1) ∙ c.first.ensures.value ∙ ap (λ (w : List Waiting). slice_get w 0) c.deref.ensures.value)
    c.remove-taken.ensures.value in
    again_first old.waiting.items c.remove-taken.new.self.items c.remove-taken.result old.ready.items c.extend_from_slice.new.self.items
    (omega (arith, c.remove-taken.ensures.len, old.waiting.ok.0)) c.remove-taken.ensures.value c.remove-taken.ensures.items report
    (matchers, found.place, front, subst (λ (it : Waiting). IsToldAgain matchers found.place front it report) same is)
    (c.in_ok-extend_from_slice-in-Some.ensures.items ∙ ap (λ bytes. old.ready.items ++ bytes) c.as_bytes.ensures.value)

-- it doesn't
pub returns-in-None : goal.returns-in-None
returns-in-None g c = settled_none _ _ _ _ refl refl
