use Rattle.std.proofs.Common.{◌∙◌, sym}
use Rattle.ariadne_show.proofs.Passed.{passed_beside_if, passed_to_output}
use Rattle.ariadne_show.proofs.writing.send_line.Goals as goal

-- beside a document
pub returns-then-is_document : goal.returns-then-is_document
returns-then-is_document g c =
    rw (← c.streams.view_is)
    (passed_beside_if c.send.result c.args.options.now c.args.line.now c.args.bytes.now c.args.shown.now
    (g.W.Write.contents c.streams.inside.out) (g.F.Write.contents c.streams.inside.beside) _
    (sym c.is_document.ensures ∙ c.if-is_document.true) c.requires c.send.ensures.ok)

-- to the output
pub returns : goal.returns
returns g c =
    rw (← c.streams.view_is)
    (passed_to_output c.args.options.now c.args.line.now c.args.bytes.now c.args.shown.now c.behind_line-shown.result
    (g.W.Write.contents c.streams.inside.out) _ (g.F.Write.contents c.streams.inside.beside)
    (sym c.is_document.ensures ∙ c.if-is_document.false) c.requires c.in_ok-send.ensures.ok c.behind_line-shown.ensures)
