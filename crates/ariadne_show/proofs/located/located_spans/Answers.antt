use Rattle.std.proofs.Common.{◌∙◌, ◌++◌, ◌∷◌, [], ap, map}
use Rattle.std.specs.Prelude.{List}
use Rattle.ariadne_outputs.specs.Located.{LocatedSpan, located_spans_of}
use Rattle.ariadne_outputs.specs.declared.located.Located.{Located}
use Rattle.ariadne_parse.specs.declared.diagnostic.Span.{Span}
use Rattle.ariadne_show.specs.FoundSpans.{files_of}
use Rattle.ariadne_show.specs.LinesAndColumns.{located_in, main_first}
use Rattle.ariadne_show.proofs.Locating.{all_located}
use Rattle.ariadne_show.proofs.located.located_spans.Goals as goal

-- its own span, and the others
pub returns : goal.returns
returns c =
    let at = located_in (files_of c.args.shelf.now) c.args.unit in
    let one = c.located_span.result in
    all_located at c.as_slice-spans.result.now c.main_span_number.result c.in-Some.main.now c.split_at.result.0.now
    c.split_at.result.1.now c.in-Some.behind.now (located_spans_of c.push.new.self.items) (located_spans_of c.push_located.new.located.items)
    (located_spans_of c.push_located-2.new.located.items) c.main_span_number.ensures c.split_at.ensures.front c.split_at.ensures.back
    c.in-Some.ensures.cases.0
    (ap located_spans_of (c.in_ok-push.ensures.items ∙ ap (λ (l : List Located). l ++ one ∷ []) c.new-located.ensures.items)
    ∙ ap (λ (l : LocatedSpan). l ∷ []) c.located_span.ensures)
    c.in_ok-push_located.ensures c.in_ok-push_located-2.ensures
    ∙ ap (λ (ps : List Span). map at (main_first ps)) c.as_slice-spans.ensures.value
