use Rattle.std.proofs.Common.{◌∙◌, ◌<◌, ◌++◌, [], ap, arith, get_or, length}
use Rattle.std.specs.Prelude.{map}
use Rattle.ariadne_parse.specs.Spans.{seen}
use Rattle.ariadne_parse.specs.declared.diagnostic.Span.{Span}
use Rattle.ariadne_blocks.specs.MarkedLocations.{all_settled, marks_of, settled}
use Rattle.ariadne_blocks.proofs.Settled.{held_all, held_next, settled_all, settled_next}
use Rattle.ariadne_blocks.proofs.drawn.settle_marks.Goals as goal

-- one more is settled, and its marks are held
pub loop-span-preserved : goal.loop-span-preserved
loop-span-preserved c =
    let ps = c.loop-span.spans in
    let i = c.loop-span.span-index in
    let before = map marks_of c.args.drawn.now.items in
    let own = map marks_of c.loop-span.own.items in
    let x : Span = get_or ps i c.span-item.result in
    let inside : i < length ps = omega arith in
    record {
      spans = settled_next before own (map marks_of c.push_marks.new.drawn.items) ps i x c.settle_span.new.span
          (all_settled [] before (map seen c.args.spans.now)) inside (ap (get_or ps i) c.span-item.is)
          (c.settle_span.ensures
          ∙ ap (λ o. settled (map marks_of o ++ map marks_of c.as_slice-in-loop-span.result.now) (seen x))
          c.as_slice.ensures.value
          ∙ ap (λ d. settled (own ++ map marks_of d) (seen x)) c.as_slice-in-loop-span.ensures.value)
          c.in_ok-push_marks.ensures c.loop-span.invariant.spans;
      own = held_next own (map marks_of c.push_marks.new.drawn.items) ps i c.settle_span.new.span inside
          c.loop-span.invariant.own c.in_ok-push_marks.ensures;
    }

-- all are
pub returns-clause-spans : goal.returns-clause-spans
returns-clause-spans c =
    settled_all (map marks_of c.args.drawn.now.items) (map marks_of c.loop-span.own.items) c.loop-span.spans
    c.loop-span.span-index (all_settled [] (map marks_of c.args.drawn.now.items) (map seen c.args.spans.now)) (omega arith)
    c.loop-span.invariant.spans

pub returns-clause-drawn : goal.returns-clause-drawn
returns-clause-drawn c =
    held_all (map marks_of c.loop-span.own.items) c.loop-span.spans c.loop-span.span-index (omega arith)
    c.loop-span.invariant.own
