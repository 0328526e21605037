use Rattle.std.proofs.Common.{◌∙◌, ◌++◌, ◌∷◌, [], ap}
use Rattle.serde_json.specs.Written.{compact_text, has_float}
use Rattle.ariadne_matching.proofs.NoFloats.{report_none}
use Rattle.ariadne_matching.proofs.reports.report_line.Goals as goal

-- a value without floats is written as defined
pub returns : goal.returns
returns c =
    let none = ap has_float c.in_ok-report.ensures ∙ report_none c.args.matched.now c.args.placed.now c.args.file.now in
    c.in_ok-push_str.ensures.bytes
    ∙ ap (λ t. t ++ 10 ∷ []) (c.in_ok-line.ensures.text none ∙ ap compact_text c.in_ok-report.ensures)
