use Rattle.std.proofs.Common.{◌∙◌, ◌++◌, ap, string_bytes}
use Rattle.std.specs.List.{flat_map}
use Rattle.ariadne_outputs.specs.Sarif.{uri_byte}
use Rattle.ariadne_outputs.proofs.Uris.{path_is}
use Rattle.ariadne_outputs.proofs.sarif.uri_text.Goals as goal

-- the scheme, and the path with its escapes
pub returns : goal.returns
returns c =
    c.in_ok-append_to.ensures.ok
    ∙ ap (λ t. string_bytes c.in_ok-uri.uri ++ t)
    (c.utf8_percent_encode.ensures.text ∙ path_is c.escaped.result c.escaped.ensures c.args.path.now)
    ∙ ap (λ t. t ++ flat_map uri_byte c.args.path.now) (c.in_ok-uri.ensures.ok ∙ c.scheme.ensures)
