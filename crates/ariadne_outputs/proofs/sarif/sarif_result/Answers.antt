use Rattle.std.proofs.Common.{◌∙◌, ap}
use Rattle.std.proofs.lemmas.Result.{IfOk-weaker}
use Rattle.serde_json.specs.Written.{compact_text, has_float}
use Rattle.ariadne_outputs.specs.Located.{located_spans_of}
use Rattle.ariadne_outputs.proofs.Related.{result_none}
use Rattle.ariadne_outputs.proofs.sarif.sarif_result.Goals as goal

-- a value without floats is written as defined
pub returns : goal.returns
returns c =
    let none = ap has_float c.in_ok-result_value.ensures ∙ result_none c.args.parsed.now (located_spans_of c.args.spans.now) in
    IfOk-weaker c.to_string.result _ _ (λ text written. written none ∙ ap compact_text c.in_ok-result_value.ensures)
    c.to_string.ensures.text
