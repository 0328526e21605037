use Rattle.ariadne_parse.proofs.Ways.{gone}
use Rattle.ariadne_parse.proofs.proposals.go_on.Goals as goal

-- the last one does
pub returns-in_ok-push-2 : goal.returns-in_ok-push-2
returns-in_ok-push-2 c =
    gone c.args.change c.args.ways.now.items c.pop.new.self.items c.push-in-Some.new.self.items c.in-Some.last c.push.new.self
    c.in-Some.ensures.items c.in_ok-push-2.ensures.items c.in_ok-push.ensures.items
