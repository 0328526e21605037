use Rattle.std.proofs.Common.{◌∙◌, ◌++◌, ap}
use Rattle.ariadne_show.specs.TextDiagnostics.{said_spans, said_texts}
use Rattle.ariadne_show.proofs.Said.{all_lines}
use Rattle.ariadne_show.proofs.texts.line_texts.Goals as goal

-- one behind the other
pub returns : goal.returns
returns c =
    all_lines _ _ _ _ _ _ _ _ _ (ap said_texts c.new-texts.ensures.items)
    (c.in_ok-push_spans.ensures ∙ ap (λ p. said_texts c.new-texts.result.items ++ said_spans p) c.as_slice.ensures.value)
    (c.in_ok-push_copies.ensures ∙ ap (λ t. said_texts c.push_spans.new.texts.items ++ said_texts t) c.as_slice-2.ensures.value)
    (c.in_ok-push_copies-2.ensures ∙ ap (λ t. said_texts c.push_copies.new.texts.items ++ said_texts t) c.as_slice-3.ensures.value)
    c.in_ok-push_missing.ensures
