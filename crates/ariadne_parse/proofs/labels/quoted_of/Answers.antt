-- The lines of a label go on with those so far.
use Rattle.std.proofs.Common.{refl}
use Rattle.std.specs.Prelude.{map}
use Rattle.std.specs.List.{flat_map}
use Rattle.serde_json.specs.View.{view}
use Rattle.ariadne_parse.specs.Read.{as_quoted}
use Rattle.ariadne_parse.specs.Rustc.{labelled, span_value_quotes}
use Rattle.ariadne_parse.proofs.Loops.{all_made, one_more}
use Rattle.ariadne_parse.proofs.labels.quoted_of.Goals as goal

pub loop-label-preserved : goal.loop-label-preserved
loop-label-preserved c =
    one_more (λ l. flat_map (λ label. span_value_quotes label.span_value) (map labelled l))
    (λ l. flat_map (λ label. span_value_quotes label.span_value) (map labelled l)) c.args.labels.now c.loop-label.label-index
    c.label-item.result (map as_quoted c.loop-label.quoted.items) (span_value_quotes (view c.label-item.result.span_value.now))
    (map as_quoted c.push_quoted.new.quoted.items) _ c.loop-label-test.true c.label-item.is refl c.in_ok-push_quoted.ensures
    c.loop-label.invariant

pub returns : goal.returns
returns c =
    all_made (λ l. flat_map (λ label. span_value_quotes label.span_value) (map labelled l)) c.args.labels.now
    c.loop-label.label-index _ _ c.loop-label-test.false refl c.loop-label.invariant
