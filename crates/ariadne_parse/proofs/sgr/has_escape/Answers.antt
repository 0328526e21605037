use Rattle.std.proofs.Common.{◌∙◌, ap, sym}
use Rattle.std.specs.List.{list_any}
use Rattle.ariadne_parse.proofs.Splits.{bare_plain, is_escape}
use Rattle.ariadne_parse.proofs.sgr.has_escape.Goals as goal

-- one without an escape is the same
pub returns-clause-same : goal.returns-clause-same
returns-clause-same c =
    λ none.
    bare_plain c.args.line.now (sym (c.contains.ensures.value ∙ ap (list_any is_escape) c.as_bytes.ensures.value) ∙ none)
