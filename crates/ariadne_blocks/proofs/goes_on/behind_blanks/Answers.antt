use Rattle.std.proofs.Common.{◌≡◌, ◌∙◌, ◌==◌, ap, arith}
use Rattle.std.specs.List.{prefix_len}
use Rattle.std.proofs.lemmas.List.Sums.{prefix_len-le-length, prefix_len_passes}
use Rattle.std.proofs.lemmas.Str.{IsCharBoundary-after_ascii}
use Rattle.ariadne_parse.proofs.Texts.{blank_small}
use Rattle.ariadne_blocks.proofs.goes_on.behind_blanks.Goals as goal

-- a text may be cut behind a blank
pub range_from-requires : goal.range_from-requires
range_from-requires c =
    let text = c.args.text.now in
    let count : c.blanks_of.result ≡ prefix_len (λ c. c == 32) text =
    c.blanks_of.ensures ∙ ap (prefix_len (λ c. c == 32)) c.as_bytes.ensures.value in
    λ some. IsCharBoundary-after_ascii text c.args.blanks c.utf8.text
    (omega (arith, count, c.if-blanks-blanks_of.true, prefix_len-le-length (λ c. c == 32) text))
    (blank_small _ (prefix_len_passes (λ c. c == 32) text c.args.blanks 0 (omega (arith, count, c.if-blanks-blanks_of.true))))
