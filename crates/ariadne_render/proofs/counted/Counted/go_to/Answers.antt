use Rattle.std.proofs.Common.{rules, arith, ◌≡◌, ◌+◌, ap, refl, sym, ◌∙◌}
use Rattle.ariadne_picture.specs.Columns.{shown_columns}
use Rattle.ariadne_render.proofs.CountedColumns.{counted-all, counted-more}
use Rattle.ariadne_render.proofs.counted.Counted.go_to.Goals as goal

pub loop-self-init : goal.loop-self-init
loop-self-init c = (c.requires.later, λ s y w h e. h)

-- a turn counts a character more
pub loop-self-preserved : goal.loop-self-preserved
loop-self-preserved c = (
  omega (arith, c.loop-self-test.true),
  λ s y w h e.
      let width = c.shown_columns-columns.ensures ∙ ap (λ t. shown_columns t c.loop-self.self.column c.in-Some.c) (sym w) in
      let sum : c.in_ok-self.field-0 ≡ c.loop-self.self.column + c.shown_columns-columns.result = search rules in
      counted-more s y c.loop-self.self _ c.in-Some.c _ (c.loop-self.invariant.1 s y w h e) c.in-Some.ensures.steps.0 width sum refl,
)

-- the characters do not end before the line does
pub returns-in_default-clause-place : goal.returns-in_default-clause-place
returns-in_default-clause-place c = c.loop-self.invariant.0

pub returns-in_default-clause-counted : goal.returns-in_default-clause-counted
returns-in_default-clause-counted c = λ s y w h e.
    let past = counted-all s y c.loop-self.self (c.loop-self.invariant.1 s y w h e) c.in_default.ensures.steps.0.0 in
    absurd (omega (arith, past, e, c.loop-self-test.true))

pub returns-clause-place : goal.returns-clause-place
returns-clause-place c = c.loop-self.invariant.0

pub returns-clause-counted : goal.returns-clause-counted
returns-clause-counted c = λ s y w h e. (c.loop-self.invariant.1 s y w h e, omega (arith, c.loop-self.invariant.0, c.loop-self-test.false))
