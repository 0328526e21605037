-- Which form a document has, by its members, and what it tells. It may tell nothing, as a list of no comments.
use Rattle.std.specs.Prelude.{ℕ, if◌then◌else◌, List, Option, Some, None, option_and_then, option_map}
use Rattle.serde_json.specs.Data.{Data}
use Rattle.ariadne_parse.specs.ParsedDiagnostics.{value_in}
use Rattle.ariadne_parse.specs.Read.{Read}
use Rattle.ariadne_documents.specs.Eslint.{eslint_parsed, is_eslint}
use Rattle.ariadne_documents.specs.Lsp.{is_lsp, lsp_parsed}
use Rattle.ariadne_documents.specs.Pyright.{is_pyright, pyright_parsed}
use Rattle.ariadne_documents.specs.Ruff.{is_ruff, ruff_parsed}
use Rattle.ariadne_sarif.specs.SarifLogs.{is_sarif, sarif_parsed}
use Rattle.ariadne_documents.specs.Shellcheck.{is_shellcheck, shellcheck_parsed}
use Rattle.ariadne_documents.specs.Vet.{is_vet, vet_parsed}
use Rattle.ariadne_documents.specs.declared.form.Form.{Form}
use Rattle.ariadne_documents.specs.declared.form.Form.TheVariants.{Sarif, Shellcheck, Eslint, Ruff, Pyright, Lsp, Vet}

-- the form of a value
unfoldable pub form_of : Data → Option Form
form_of d =
    if is_sarif d then Some Sarif
    else (if is_shellcheck d then Some Shellcheck
    else (if is_eslint d then Some Eslint
    else (if is_ruff d then Some Ruff
    else (if is_pyright d then Some Pyright
    else (if is_lsp d then Some Lsp
    else (if is_vet d then Some Vet else None))))))

-- what a value of a form tells
unfoldable pub parsed_in : Form → Data → List Read
parsed_in Sarif d = sarif_parsed d
parsed_in Shellcheck d = shellcheck_parsed d
parsed_in Eslint d = eslint_parsed d
parsed_in Ruff d = ruff_parsed d
parsed_in Pyright d = pyright_parsed d
parsed_in Lsp d = lsp_parsed d
parsed_in Vet d = vet_parsed d

-- what a value tells, if it has a form
abbrev pub parsed_document : Data → Option (List Read)
parsed_document d = option_map (λ form. parsed_in form d) (form_of d)

-- what a line tells, if it is a document: a value that has a form, with no blanks in front
abbrev pub line_parsed : List ℕ → Option (List Read)
line_parsed line = option_and_then parsed_document (value_in line)
