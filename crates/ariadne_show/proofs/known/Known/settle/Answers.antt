use Rattle.std.proofs.Common.{refl}
use Rattle.std.specs.Vec.{with_items}
use Rattle.ariadne_show.proofs.Settled.{kept_items, settled_if}
use Rattle.ariadne_show.proofs.known.Known.settle.Goals as goal

-- its spans have marks, those that repeat others are gone, and the marks are held
pub returns : goal.returns
returns c =
    settled_if c.drop_repeats.result c.args.parsed.now c.args.self.now c.settle_marks.new.drawn
    (with_items c.args.parsed.now.spans c.settle_marks.new.spans) c.drop_repeats.new.spans c.as_mut_slice.result.now
    c.settle_marks.new.spans c.as_mut_slice.ensures.value c.in_ok-settle_marks.ensures.spans
    c.in_ok-settle_marks.ensures.drawn
    (kept_items c.args.parsed.now.spans c.as_mut_slice.result.now _ c.settle_marks.new.spans c.as_mut_slice.ensures.value
    c.settle_marks.auto.spans refl)
    c.drop_repeats.ensures
