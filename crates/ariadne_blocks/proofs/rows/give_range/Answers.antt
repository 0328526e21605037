use Rattle.std.proofs.Common.{◌∙◌, ap, get_or}
use Rattle.std.specs.Prelude.{option_map}
use Rattle.ariadne_parse.specs.Spans.{seen}
use Rattle.ariadne_parse.specs.declared.diagnostic.Span.{Span}
use Rattle.ariadne_blocks.specs.Files.{file_of}
use Rattle.ariadne_blocks.specs.MarkMeanings.{own_marks}
use Rattle.ariadne_blocks.proofs.Said.{given_own}
use Rattle.ariadne_blocks.proofs.rows.give_range.Goals as goal

-- the span has the mark as its range
pub returns-clause-given : goal.returns-clause-given
returns-clause-given c = λ yes.
    let ps = c.args.spans.now in
    let x : Span = get_or ps c.args.number c.index-spans-number-2.result in
    given_own (option_map file_of c.args.file) c.args.mark.now c.args.number ps x
    (record x { caret = c.caret_of-span.result; marks = c.own_marks-span.result }) c.if-number-spans.false
    (ap (get_or ps c.args.number) c.index-spans-number-2.is)
    (ap (λ r. record (seen x) { caret = c.caret_of-span.result; marks = r }) c.own_marks-span.ensures
    ∙ ap (λ t. record (seen x) { caret = t; marks = own_marks c.args.mark.now (seen x) }) c.caret_of-span.ensures)
