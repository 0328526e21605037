use Rattle.std.proofs.Common.{◌≡◌, ◌∙◌, ap}
use Rattle.std.specs.List.{prefix_len}
use Rattle.ariadne_parse.specs.Sgr.{is_parameter}
use Rattle.ariadne_parse.proofs.Texts.{parameter_small, run_boundary}
use Rattle.ariadne_parse.proofs.sgr.past_parameters.Goals as goal

-- a text may be cut behind parameters
pub range_from-requires : goal.range_from-requires
range_from-requires c =
    let end : c.parameters.result ≡ prefix_len is_parameter c.args.text.now =
    c.parameters.ensures ∙ ap (prefix_len is_parameter) c.as_bytes.ensures.value in
    λ some. run_boundary is_parameter parameter_small c.args.text.now c.parameters.result end c.utf8.text
