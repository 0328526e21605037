use denote.Param.Always.{mut_next}
use Rattle.std.proofs.Common.{IsSome, refl, sym, ◌∙◌}
use Rattle.ariadne_base.specs.Cache.{held}
use Rattle.ariadne_base.proofs.Lookups.{none-there, nothing-there}
use Rattle.ariadne_base.proofs.cache.function.FnCacheCache.ensure.Goals as goal

-- an id that is held changes nothing
pub returns-then-contains_key : goal.returns-then-contains_key
returns-then-contains_key g c =
    let there : IsSome (held g.Id.PartialEq.eq c.args.self.now.sources c.args.id.now) =
    rw (← c.self.view_is) (sym c.if-contains_key.ensures) in
    record {
      again = c.requires;
      step = (there, (λ q _. refl), (λ q _. refl), (λ _ q. refl));
      naming = λ q. refl;
      rests = λ _. refl;
      called = λ none. nothing-there _ none there;
    }

-- the id was not held, and what is held is as it was
pub returns-in-Err-clause-step : goal.returns-in-Err-clause-step
returns-in-Err-clause-step g c =
    (rw (← c.self.view_is) (none-there _ c.if-contains_key.ensures), (λ q. rw (← c.self.view_is) refl), tt)

pub returns-in-Err-clause-rests : goal.returns-in-Err-clause-rests
returns-in-Err-clause-rests g c = nothing-there _ (rw (← c.self.view_is) (none-there _ c.if-contains_key.ensures))

-- the function's error is returned as it is
pub returns-in-Err-clause-called : goal.returns-in-Err-clause-called
returns-in-Err-clause-called g c = λ none. (
  c.call_mut.result,
  record { shown = c.args.id; shows = refl; called = rw (← c.self.view_is) c.call_mut.ensures },
  rw c.in-Err.is refl,
)

-- the id was not held, and it alone is new
pub returns-in-Ok-keep-clause-step : goal.returns-in-Ok-keep-clause-step
returns-in-Ok-keep-clause-step g c = (
  rw c.in-Ok-keep.ensures.ok refl,
  (λ q there. rw (← c.self.view_is) (c.in-Ok-keep.ensures.grows q (rw (← c.self.view_is) at there))),
  (λ q apart. rw (← c.self.view_is) (c.in-Ok-keep.ensures.others q apart)),
  nothing-there _ (rw (← c.self.view_is) (none-there _ c.if-contains_key.ensures)),
)

pub returns-in-Ok-keep-clause-rests : goal.returns-in-Ok-keep-clause-rests
returns-in-Ok-keep-clause-rests g c = nothing-there _ (rw (← c.self.view_is) (none-there _ c.if-contains_key.ensures))

-- the function's text is held, and the function is as its call left it
pub returns-in-Ok-keep-clause-called : goal.returns-in-Ok-keep-clause-called
returns-in-Ok-keep-clause-called g c = λ none. (
  c.call_mut.result,
  record { shown = c.args.id; shows = refl; called = rw (c.keep.ensures.function, ← c.self.view_is) c.call_mut.ensures },
  rw c.in-Ok.is c.in-Ok-keep.ensures.ok,
)

-- the id was not held, and what is held is as it was
pub returns-in-Err-keep-clause-step : goal.returns-in-Err-keep-clause-step
returns-in-Err-keep-clause-step g c = (
  rw (← c.self.view_is) (none-there _ c.if-contains_key.ensures),
  (λ q. rw (← c.self.view_is) (c.in-Err-keep.ensures.err q)),
)

pub returns-in-Err-keep-clause-rests : goal.returns-in-Err-keep-clause-rests
returns-in-Err-keep-clause-rests g c = nothing-there _ (rw (← c.self.view_is) (none-there _ c.if-contains_key.ensures))

-- there was no memory to hold the text, so nothing is held under the id
pub returns-in-Err-keep-clause-called : goal.returns-in-Err-keep-clause-called
returns-in-Err-keep-clause-called g c = λ none. (
  c.call_mut.result,
  record { shown = c.args.id; shows = refl; called = rw (c.keep.ensures.function, ← c.self.view_is) c.call_mut.ensures },
  rw c.in-Ok.is (c.in-Err-keep.ensures.err c.args.id.now ∙ (rw (← c.self.view_is) at none)),
)

-- nothing is held under the id that the text is kept for
pub keep-requires : goal.keep-requires
keep-requires g c = none-there _ c.if-contains_key.ensures

-- clones are as before
pub invariant_of-self : goal.invariant_of-self
invariant_of-self g c = c.self.invariant

pub invariant_of-self-in-Ok : goal.invariant_of-self-in-Ok
invariant_of-self-in-Ok g c = c.self.invariant

-- after a call the function may be called again
pub returns-in-Err-clause-again : goal.returns-in-Err-clause-again
returns-in-Err-clause-again g c =
    mut_next g.F.FnMut _ _ _ _ _ c.call_mut.ensures refl (rw (← c.self.view_is) at c.requires)

pub returns-in-Ok-keep-clause-again : goal.returns-in-Ok-keep-clause-again
returns-in-Ok-keep-clause-again g c =
    mut_next g.F.FnMut _ _ _ _ _ c.call_mut.ensures (sym c.keep.ensures.function) (rw (← c.self.view_is) at c.requires)

pub returns-in-Err-keep-clause-again : goal.returns-in-Err-keep-clause-again
returns-in-Err-keep-clause-again g c =
    mut_next g.F.FnMut _ _ _ _ _ c.call_mut.ensures (sym c.keep.ensures.function) (rw (← c.self.view_is) at c.requires)
