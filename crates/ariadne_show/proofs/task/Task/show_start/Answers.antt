use Rattle.std.proofs.Common.{◌∙◌, sym}
use Rattle.ariadne_show.proofs.Final.{not_started, started_if}
use Rattle.ariadne_show.proofs.task.Task.show_start.Goals as goal

-- nothing stands in front of lines
pub returns-then-not-is_document-clause-output : goal.returns-then-not-is_document-clause-output
returns-then-not-is_document-clause-output g c =
    not_started c.args.self.now.options.now.output c.args.streams.now.output
    (sym c.is_document.ensures ∙ c.if-not-is_document.true)

-- the head of a document
pub returns-clause-output : goal.returns-clause-output
returns-clause-output g c =
    rw (← c.streams.view_is)
    (started_if c.send.result c.args.self.now.options.now.output (g.W.Write.contents c.streams.inside.out)
    (g.W.Write.contents c.send.new.out) _ (sym c.is_document.ensures ∙ c.if-not-is_document.false)
    (c.as_bytes.ensures.value ∙ c.in_ok-head.ensures) c.send.ensures.ok)
