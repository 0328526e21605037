use Rattle.std.proofs.Common.{◌∙◌, ◌∷◌, [], ap, map, sym}
use Rattle.std.specs.Prelude.{List, Option, ℕ}
use Rattle.serde_json.specs.View.{view}
use Rattle.ariadne_parse.specs.Read.{read, Read}
use Rattle.ariadne_parse.specs.Rustc.{rustc_read}
use Rattle.ariadne_parse.specs.ParsedDiagnostics.{of_rustc}
use Rattle.ariadne_parse.proofs.telling.rustc_in.Goals as goal

-- the diagnostic that the value is, or hands on, with the manifest that it names
pub returns-clause-all : goal.returns-clause-all
returns-clause-all c =
    let message = view c.in-Some.message.now in
    of_rustc message (sym c.in-Some.ensures)
    (ap (map read) c.in_ok-one.ensures
    ∙ ap (λ (parsed : Read). parsed ∷ [])
    (c.in_ok-parsed.ensures ∙ ap (λ (manifest : Option (List ℕ)). rustc_read manifest message) c.in_ok-manifest.ensures))
