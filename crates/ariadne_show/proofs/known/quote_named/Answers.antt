use Rattle.std.proofs.Common.{sym, ◌∙◌}
use Rattle.std.proofs.lemmas.Result.{on_ok_weaker}
use Rattle.ariadne_show.specs.Known.{quotes, unread}
use Rattle.ariadne_show.proofs.known.quote_named.Goals as goal

-- the next rows quote its file
pub returns-then-branch-clause-quoted : goal.returns-then-branch-clause-quoted
returns-then-branch-clause-quoted g c =
    on_ok_weaker c.quote.result
    (λ quoted. quotes c.take_named.new.self c.in-Some.span c.settle.new.span c.in-Some.ensures
    c.in_ok-settle.ensures.settled (sym c.in_ok-settle.ensures.held ∙ c.if-branch.true) quoted)
    c.quote.ensures

-- it can't be read, and is told
pub returns-else-branch-clause-quoted : goal.returns-else-branch-clause-quoted
returns-else-branch-clause-quoted g c =
    on_ok_weaker c.tell_span.result
    (λ parsed. unread c.take_named.new.self c.in-Some.span c.settle.new.span c.in-Some.ensures
    c.in_ok-settle.ensures.settled (sym c.in_ok-settle.ensures.held ∙ c.if-branch.false) parsed)
    c.tell_span.ensures.view
