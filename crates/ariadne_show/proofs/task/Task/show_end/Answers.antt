use Rattle.std.proofs.Common.{◌∙◌, ap, sym}
use Rattle.ariadne_show.specs.Sums.{line_end}
use Rattle.ariadne_show.specs.Writing.{is_open, out_of}
use Rattle.ariadne_show.proofs.Final.{ended_in_document_if, ended_in_lines_if}
use Rattle.ariadne_show.proofs.task.Task.show_end.Goals as goal

-- behind a document
pub returns-then-is_document : goal.returns-then-is_document
returns-then-is_document g c =
    rw (← c.streams.view_is)
    (ended_in_document_if c.send-then-is_document-2.result c.args.self.now.options.now.output
    (out_of c.args.shown.now (record {
      output = g.W.Write.contents c.streams.inside.out;
      beside = g.F.Write.contents c.streams.inside.beside;
    }))
    _ _ _ _ _ _ (sym c.is_document.ensures ∙ c.if-is_document.true) c.as_bytes.ensures.value
    (c.as_bytes-then-is_document.ensures.value ∙ c.in_ok-more.ensures)
    (c.as_bytes-then-is_document-2.ensures.value ∙ c.in_ok-sum.ensures) c.in_ok-send.ensures.ok c.in_ok-send-2.ensures.ok
    c.send-then-is_document-2.ensures.ok)

-- behind lines
pub returns : goal.returns
returns g c =
    rw (← c.streams.view_is)
    (ended_in_lines_if c.send-4.result c.args.self.now.options.now.output
    (out_of c.args.shown.now (record {
      output = g.W.Write.contents c.streams.inside.out;
      beside = g.F.Write.contents c.streams.inside.beside;
    }))
    _ _ _ _ _ _ (sym c.is_document.ensures ∙ c.if-is_document.false)
    (c.line_end.ensures ∙ ap (line_end (is_open c.args.shown.now.written)) (c.as_str.ensures.value ∙ c.in_ok-sum.ensures))
    (c.as_bytes-2.ensures.value ∙ c.in_ok-more.ensures) (c.as_bytes-3.ensures.value ∙ c.in_ok-sum.ensures)
    c.in_ok-send-3.ensures.ok c.in_ok-send-4.ensures.ok c.send-4.ensures.ok)
