use Rattle.std.proofs.Common.{◌≡◌, ◌∙◌, ◌==◌, ap}
use Rattle.std.specs.List.{prefix_len}
use Rattle.ariadne_parse.proofs.Texts.{blank_small, run_boundary}
use Rattle.ariadne_parse.proofs.pieces.past_blanks.Goals as goal

-- a text may be cut behind blanks
pub range_from-requires : goal.range_from-requires
range_from-requires c =
    let end : c.blanks.result ≡ prefix_len (λ c. c == 32) c.args.text.now =
    c.blanks.ensures ∙ ap (prefix_len (λ c. c == 32)) c.as_bytes.ensures.value in
    λ some. run_boundary (λ c. c == 32) blank_small c.args.text.now c.blanks.result end c.utf8.text
