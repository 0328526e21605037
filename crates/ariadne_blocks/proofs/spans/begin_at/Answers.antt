use Rattle.std.proofs.Common.{ap, get_or}
use Rattle.ariadne_parse.specs.declared.diagnostic.Span.{Span}
use Rattle.ariadne_blocks.proofs.Said.{begun_own}
use Rattle.ariadne_blocks.proofs.spans.begin_at.Goals as goal

-- the span begins there
pub returns-then-number-spans : goal.returns-then-number-spans
returns-then-number-spans c =
    let ps = c.args.spans.now in
    let x : Span = get_or ps c.args.number c.index-spans-number.result in
    begun_own c.args.is_own c.args.start c.args.number ps x c.begin_span.new.span c.if-number-spans.true
    (ap (get_or ps c.args.number) c.index-spans-number.is) c.begin_span.ensures
