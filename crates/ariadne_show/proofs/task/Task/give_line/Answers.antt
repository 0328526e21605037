use Rattle.ariadne_show.proofs.Given.{told_if}
use Rattle.ariadne_show.proofs.task.Task.give_line.Goals as goal

-- its span went
pub returns-in-Span-clause-gone : goal.returns-in-Span-clause-gone
returns-in-Span-clause-gone g c =
    told_if c.give_span.result c.args.self.now.options.now c.args.waiting c.as_slice.result.now c.in-Span.span _ _ c.in-Span.is
    c.as_slice.ensures.value c.give_span.ensures.gone
