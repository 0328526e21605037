use Rattle.ariadne_show.proofs.Waiting.{more_in_front_if, none_wait}
use Rattle.ariadne_show.proofs.known.Known.take_more.Goals as goal

-- the diagnostic in front has taken it in, or not
pub returns-in-Some : goal.returns-in-Some
returns-in-Some c =
    more_in_front_if c.take_more.result c.args.line c.args.self.now c.in-Some.block c.take_more.new.self c.in-Some.is
    (none_wait c.args.self.now c.lines_wait.result c.lines_wait.ensures c.if-lines_wait.false) c.take_more.ensures.may
    c.take_more.ensures.held c.take_more.ensures.same
