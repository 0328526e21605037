use Rattle.ariadne_snippets.proofs.Joining.{pushed_off, pushed_on}
use Rattle.ariadne_snippets.proofs.runs.push_mark.Goals as goal

-- the last one goes on
pub returns-in_ok-push-in-Some : goal.returns-in_ok-push-in-Some
returns-in_ok-push-in-Some c =
    pushed_on c.args.runs.now.items c.pop.new.self.items c.in-Some.last c.args.mark c.in-Some.ensures.items
    c.push.new.self.items c.joined.result c.if-goes_on.ensures c.joined.ensures (c.in_ok-push-in-Some.ensures).items

-- it doesn't
pub returns-in_ok-push-in-Some-2-2 : goal.returns-in_ok-push-in-Some-2-2
returns-in_ok-push-in-Some-2-2 c =
    pushed_off c.args.runs.now.items c.pop.new.self.items c.in-Some.last c.args.mark c.in-Some.ensures.items
    c.push-in-Some-2-2.new.self.items c.push-in-Some-2.new.self.items c.if-goes_on.ensures (c.in_ok-push-in-Some-2.ensures).items (c.in_ok-push-in-Some-2-2.ensures).items
