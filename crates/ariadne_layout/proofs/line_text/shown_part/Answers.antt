-- The line is cut where its shown bytes end.
use Rattle.std.proofs.Common.{◌≡◌, ◌-◌, ◌∙◌, ap, arith, subst, take}
use Rattle.std.specs.Prelude.{IfSome}
use Rattle.std.specs.Str.{chars}
use Rattle.ariadne_layout.specs.Ends.{shown_bytes}
use Rattle.ariadne_layout.proofs.Layouts.{shown_boundary, trim_cut}
use Rattle.ariadne_layout.proofs.line_text.shown_part.Goals as goal

-- a character begins there
pub range-requires-clause-end_boundary : goal.range-requires-clause-end_boundary
range-requires-clause-end_boundary c =
    let line = c.args.line.now in
    let known = subst (λ o. IfSome o (λ n. n ≡ shown_bytes (chars line))) c.in-Some.is c.requires.known in
    shown_boundary line c.in-Some.end c.utf8.line known

-- the bytes before are the shown ones
pub returns-in-Some : goal.returns-in-Some
returns-in-Some c =
    let line = c.args.line.now in
    let n = c.in-Some.end in
    let known = subst (λ o. IfSome o (λ n. n ≡ shown_bytes (chars line))) c.in-Some.is c.requires.known in
    let all : n - 0 ≡ n = omega arith in
    c.range.ensures.value ∙ ap (λ k. take k line) all ∙ trim_cut line n c.utf8.line known
