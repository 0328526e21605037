-- Each turn takes in the next character, and the last turn the last one.
use Rattle.std.proofs.Common.{chars, rules, sym, ◌∙◌}
use Rattle.std.proofs.lemmas.Iterator.{YieldsList-from_chars}
use Rattle.std.proofs.lemmas.List.{length_push, nil_from_length}
use Rattle.ariadne_commands.specs.Brackets.{empty}
use Rattle.ariadne_commands.proofs.Stacks.{IsOpen}
use Rattle.ariadne_commands.proofs.Offences.{at_end, found_last, found_mismatched, found_unopened, next_closing, next_opening, next_plain, turn}
use Rattle.ariadne_commands.proofs.offence.first_offence.Goals as goal

-- before the first turn nothing is open
pub loop-offset-init : goal.loop-offset-init
unfolding IsOpen
loop-offset-init c = rw c.new-opened.ensures.items empty

pub loop-offset-preserved-in-Continue-1 : goal.loop-offset-preserved-in-Continue-1
loop-offset-preserved-in-Continue-1 c =
    let read = YieldsList-from_chars {s = c.chars.result} c.args.text.now c.utf8.text c.chars.ensures.rest in
    let all = c.enumerate-offset-items.ensures in
    let t = turn (chars c.args.text.now) read all.source all.count c.into_iter-offset-iterator.ensures.into_iter_gives _ _ c.loop-offset.yielded_by
    _ _ _ _ c.in-Some.is c.next.ensures.steps in
    rw length_push
    (next_opening _ _ _ t.1 _ _ _ c.loop-offset.invariant (sym c.in-Some-closing_of.ensures) t.0 c.in_ok-push.ensures.items)

pub loop-offset-preserved-then-bracket-c : goal.loop-offset-preserved-then-bracket-c
loop-offset-preserved-then-bracket-c c =
    let read = YieldsList-from_chars {s = c.chars.result} c.args.text.now c.utf8.text c.chars.ensures.rest in
    let all = c.enumerate-offset-items.ensures in
    let t = turn (chars c.args.text.now) read all.source all.count c.into_iter-offset-iterator.ensures.into_iter_gives _ _ c.loop-offset.yielded_by
    _ _ _ _ c.in-Some.is c.next.ensures.steps in
    rw length_push (next_closing _ _ _ t.1 _ _ _ c.loop-offset.invariant c.if-bracket-c.true c.in-Some-pop.ensures.items)

pub loop-offset-preserved : goal.loop-offset-preserved
loop-offset-preserved c =
    let read = YieldsList-from_chars {s = c.chars.result} c.args.text.now c.utf8.text c.chars.ensures.rest in
    let all = c.enumerate-offset-items.ensures in
    let t = turn (chars c.args.text.now) read all.source all.count c.into_iter-offset-iterator.ensures.into_iter_gives _ _ c.loop-offset.yielded_by
    _ _ _ _ c.in-Some.is c.next.ensures.steps in
    rw length_push (next_plain _ _ _ t.1 c.loop-offset.opened.items c.loop-offset.invariant (sym c.in_default.ensures) (sym c.if-is_closing.ensures))

pub returns-in-Some-2 : goal.returns-in-Some-2
returns-in-Some-2 c =
    let read = YieldsList-from_chars {s = c.chars.result} c.args.text.now c.utf8.text c.chars.ensures.rest in
    let all = c.enumerate-offset-items.ensures in
    let t = turn (chars c.args.text.now) read all.source all.count c.into_iter-offset-iterator.ensures.into_iter_gives _ _ c.loop-offset.yielded_by
    _ _ _ _ c.in-Some.is c.next.ensures.steps in
    rw t.0
    (found_mismatched _ _ _ t.1 _ _ _ c.loop-offset.invariant (sym c.in_default.ensures) (sym c.if-is_closing.ensures) c.if-bracket-c.false
    c.in-Some-pop.ensures.items)

pub returns-in-None-pop : goal.returns-in-None-pop
returns-in-None-pop c =
    let read = YieldsList-from_chars {s = c.chars.result} c.args.text.now c.utf8.text c.chars.ensures.rest in
    let all = c.enumerate-offset-items.ensures in
    let t = turn (chars c.args.text.now) read all.source all.count c.into_iter-offset-iterator.ensures.into_iter_gives _ _ c.loop-offset.yielded_by
    _ _ _ _ c.in-Some.is c.next.ensures.steps in
    rw t.0
    (found_unopened _ _ _ t.1 c.loop-offset.opened.items c.loop-offset.invariant (sym c.in_default.ensures) (sym c.if-is_closing.ensures)
    (nil_from_length c.loop-offset.opened.items (sym c.loop-offset.opened.ok.0 ∙ c.in-None-pop.ensures.cases.0)))

-- what is open at the end
pub returns : goal.returns
returns c =
    let read = YieldsList-from_chars {s = c.chars.result} c.args.text.now c.utf8.text c.chars.ensures.rest in
    let all = c.enumerate-offset-items.ensures in
    let e = at_end (chars c.args.text.now) read all.source all.count c.into_iter-offset-iterator.ensures.into_iter_gives _ _ c.loop-offset.yielded_by
    _ _ c.in-None.is c.next.ensures.steps in
    found_last _ _ _ _ _ (rw e at c.loop-offset.invariant) c.pop-2.ensures.items (λ h. c.pop-2.ensures.variant.1 (rw c.loop-offset.opened.ok.0 h)) (search rules)
