use Rattle.std.proofs.Common.{arith, refl, subst, sym}
use Rattle.std.proofs.lemmas.List.{take_all}
use Rattle.ariadne_parse.specs.declared.diagnostic.Span.{Span}
use Rattle.ariadne_show.specs.ReadFiles.{IsSettledNow}
use Rattle.ariadne_show.proofs.Reading.{all_opened_if, opened_more}
use Rattle.ariadne_show.proofs.shelf.Shelf.open.Goals as goal

-- one span more in each turn
pub loop-span-preserved : goal.loop-span-preserved
loop-span-preserved g c =
    opened_more c.args.search.now c.args.spans.now c.loop-span.spans _ c.loop-span.span-index c.span-item.result
    c.settle.new.span c.args.self.now c.loop-span.self c.settle.new.self (omega (arith, c.loop-span-test.true, c.loop-span.auto.spans)) c.span-item.is refl
    c.loop-span.invariant
    (subst (λ (x : Span). IsSettledNow c.args.search.now x c.settle.new.span c.loop-span.self c.settle.new.self) (sym c.span-item.is)
    c.in_ok-settle.ensures)

-- all of them
pub returns : goal.returns
returns g c =
    all_opened_if c.quote.result c.args.search.now c.args.quoted.now c.args.spans.now c.loop-span.spans c.loop-span.span-index
    c.args.self.now c.loop-span.self c.quote.new.self
    (take_all c.loop-span.span-index c.args.spans.now c.loop-span-test.false)
    (take_all c.loop-span.span-index c.loop-span.spans
    (omega (arith, c.loop-span-test.false, c.loop-span.auto.spans))) c.loop-span.invariant c.quote.ensures
