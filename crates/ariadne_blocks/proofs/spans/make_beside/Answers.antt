use Rattle.std.proofs.Common.{◌∙◌, ap, false, get_or, refl, sym, arith}
use Rattle.std.specs.Prelude.{map}
use Rattle.ariadne_parse.specs.Spans.{seen}
use Rattle.ariadne_parse.specs.declared.diagnostic.Span.{Span}
use Rattle.ariadne_blocks.specs.Notes.{as_beside}
use Rattle.ariadne_blocks.proofs.Lists.{written, written_all}
use Rattle.ariadne_blocks.proofs.spans.make_beside.Goals as goal

-- one more is beside
pub loop-span-preserved : goal.loop-span-preserved
loop-span-preserved c =
    let ps = c.loop-span.spans in
    let i = c.loop-span.span-index in
    let x : Span = get_or ps i c.span-item.result in
    written seen (map as_beside) (map as_beside) ps i x (record x { is_primary = false }) (omega arith)
    (ap (get_or ps i) c.span-item.is) refl
    ∙ c.loop-span.invariant

-- all are
pub returns : goal.returns
returns c =
    sym (written_all seen (map as_beside) c.loop-span.spans c.loop-span.span-index (omega arith) refl)
    ∙ c.loop-span.invariant
