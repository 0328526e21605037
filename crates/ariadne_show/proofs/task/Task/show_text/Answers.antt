use Rattle.std.proofs.Common.{Option, subst}
use Rattle.std.specs.Prelude.{Bool}
use Rattle.ariadne_show.specs.Known.{IsMoreTaken, IsPlacedIn, IsWaiting}
use Rattle.ariadne_show.specs.Writing.{out_of}
use Rattle.ariadne_show.specs.declared.front.PlacedHead.{PlacedHead}
use Rattle.ariadne_show.proofs.Answered.{gone_on, named_if, other_if, waited}
use Rattle.ariadne_show.proofs.task.Task.show_text.Goals as goal

-- it names the span of a head that waits
pub returns-in-Some-clause-shown : goal.returns-in-Some-clause-shown
returns-in-Some-clause-shown g c =
    named_if c.show_placed.result c.args.self.now.options.now c.args.line c.args.run.now.known c.placed.new.self
    (out_of c.args.run.now.shown c.args.streams.now) c.in-Some.head _
    (subst (λ (o : Option PlacedHead). IsPlacedIn c.args.line.text.now c.args.run.now.known c.placed.new.self o) c.in-Some.is
    c.in_ok-head.ensures)
    c.show_placed.ensures.shown

-- it waits
pub returns-then-branch-clause-shown : goal.returns-then-branch-clause-shown
returns-then-branch-clause-shown g c =
    waited c.args.self.now.options.now c.args.line c.args.run.now.known c.placed.new.self c.takes_in_front.new.self
    (out_of c.args.run.now.shown c.args.streams.now)
    (subst (λ (o : Option PlacedHead). IsPlacedIn c.args.line.text.now c.args.run.now.known c.placed.new.self o) c.in_default.is
    c.in_ok-head.ensures)
    (subst (λ (b : Bool). IsWaiting c.args.line c.placed.new.self
    c.takes_in_front.new.self b) c.if-branch.true c.in_ok-takes_in_front.ensures)

-- it goes on with a message
pub returns-then-branch-2-clause-shown : goal.returns-then-branch-2-clause-shown
returns-then-branch-2-clause-shown g c =
    gone_on c.args.self.now.options.now c.args.line c.args.run.now.known c.placed.new.self c.takes_in_front.new.self
    c.take_more.new.self (out_of c.args.run.now.shown c.args.streams.now)
    (subst (λ (o : Option PlacedHead). IsPlacedIn c.args.line.text.now c.args.run.now.known c.placed.new.self o) c.in_default.is
    c.in_ok-head.ensures)
    (subst (λ (b : Bool). IsWaiting c.args.line c.placed.new.self
    c.takes_in_front.new.self b) c.if-branch.false c.in_ok-takes_in_front.ensures)
    (subst (λ (b : Bool). IsMoreTaken c.args.line c.takes_in_front.new.self c.take_more.new.self b) c.if-branch-2.true
    c.in_ok-take_more.ensures)

-- it is another
pub returns-clause-shown : goal.returns-clause-shown
returns-clause-shown g c =
    other_if c.show_other.result c.args.self.now.options.now c.args.line c.args.run.now.known c.placed.new.self
    c.takes_in_front.new.self c.take_more.new.self (out_of c.args.run.now.shown c.args.streams.now) _
    (subst (λ (o : Option PlacedHead). IsPlacedIn c.args.line.text.now c.args.run.now.known c.placed.new.self o) c.in_default.is
    c.in_ok-head.ensures)
    (subst (λ (b : Bool). IsWaiting c.args.line c.placed.new.self
    c.takes_in_front.new.self b) c.if-branch.false c.in_ok-takes_in_front.ensures)
    (subst (λ (b : Bool). IsMoreTaken c.args.line c.takes_in_front.new.self c.take_more.new.self b) c.if-branch-2.false
    c.in_ok-take_more.ensures)
    c.show_other.ensures.shown
