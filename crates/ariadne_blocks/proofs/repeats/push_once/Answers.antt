use Rattle.ariadne_blocks.proofs.Once.{left_out, put_behind, repeats_last}
use Rattle.ariadne_blocks.proofs.repeats.push_once.Goals as goal

-- it repeats one
pub returns-then-is_repeat : goal.returns-then-is_repeat
returns-then-is_repeat c =
    left_out c.args.spans.now.items c.args.span c.is_repeat.result
    (repeats_last c.args.spans.now.items c.as_slice.result.now c.last_spans.result.now c.args.span c.is_repeat.result
    c.as_slice.ensures.value c.last_spans.ensures c.is_repeat.ensures)
    c.if-is_repeat.true

-- it repeats none
pub returns : goal.returns
returns c =
    put_behind c.args.spans.now.items c.push.new.self.items c.args.span c.is_repeat.result
    (repeats_last c.args.spans.now.items c.as_slice.result.now c.last_spans.result.now c.args.span c.is_repeat.result
    c.as_slice.ensures.value c.last_spans.ensures c.is_repeat.ensures)
    c.if-is_repeat.false c.in_ok-push.ensures.items
