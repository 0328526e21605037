use Rattle.std.proofs.Common.{◌+◌, ◌∙◌, ap, arith, subst, sym}
use Rattle.ariadne_layout.specs.Candidates.{infos_among}
use Rattle.ariadne_layout.proofs.Stretched.{ShowsBelow, shows_none, shows_choice, shows_all}
use Rattle.ariadne_layout.proofs.stretches.push_chosen.Goals as goal

-- at first there is no stretch
pub loop-place-init : goal.loop-place-init
loop-place-init c = record {
  within = omega arith;
  shows = subst (ShowsBelow _ 0) (sym (c.reserve_exact.ensures.items ∙ c.requires.empty)) (shows_none _);
}

-- it stays within the line
pub overflow_add-place : goal.overflow_add-place
overflow_add-place c = let within = c.choose-choice.ensures.within in omega arith

-- the stretch of a choice is not empty
pub loop-place-smaller : goal.loop-place-smaller
loop-place-smaller c =
    let goes_on = c.choose-choice.ensures.goes_on (omega arith) in omega (arith, c.len-place.ensures)

-- a turn adds the stretch of a choice
pub loop-place-preserved : goal.loop-place-preserved
loop-place-preserved c =
    let within = c.choose-choice.ensures.within in
    record {
      within = omega arith;
      shows = shows_choice (infos_among c.args.labels.now) c.args.offset c.loop-place.place c.args.len c.choose-choice.result
          c.loop-place.list.items c.push.new.self.items _ c.loop-place.invariant.shows c.choose-choice.ensures
          c.loop-place-test.true (ap (λ n. c.loop-place.place + n) c.len-place.ensures) c.position.ensures c.in_ok-push.ensures.items;
    }

-- at the end they show all
pub returns : goal.returns
returns c = λ k below. shows_all _ c.loop-place.place c.loop-place.list.items k c.loop-place.invariant.shows (omega arith)
