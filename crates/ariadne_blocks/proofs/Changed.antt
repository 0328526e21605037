-- What rows for programs change.
use Rattle.std.proofs.Common.{◌≡◌, ◌∙◌, ℕ, List, ap, sym}
use Rattle.std.specs.Prelude.{Bool, true, false, if◌then◌else◌}
use Rattle.ariadne_snippets.specs.declared.taken.FixKind.{FixKind}
use Rattle.ariadne_parse.specs.FixRows.{FixRow}
use Rattle.ariadne_blocks.specs.Blocks.{fix_row_help, with_help, with_help_of_row, with_reason, View}
use Rattle.ariadne_blocks.specs.FixChanges.{column_of, is_parsed_in, kind_of}
use Rattle.ariadne_blocks.specs.HelpFixes.{fix_text}

-- a change that may be told already
with_change : FixRow → View → FixKind × List ℕ → View
with_change row view change =
    if is_parsed_in view.changes row.start.line change.0 change.1 then view
    else with_help (fix_row_help row change) (with_reason view)

-- it is
pub parsed_already : (row : FixRow) (view : View) (kind : FixKind) (text plain : List ℕ)
    → (kind, text) ≡ kind_of row plain → is_parsed_in view.changes row.start.line kind text ≡ true
    → view ≡ with_help_of_row row plain view
unfolding with_change
parsed_already row view kind text plain is parsed =
    ap (λ (b : Bool). if b then view else with_help (fix_row_help row (kind, text)) (with_reason view)) (sym parsed)
    ∙ ap (with_change row view) is

-- it isn't
pub parsed_now : (row : FixRow) (view : View) (kind : FixKind) (text plain : List ℕ)
    → (kind, text) ≡ kind_of row plain → is_parsed_in view.changes row.start.line kind text ≡ false
    → with_help (fix_row_help row (kind, text)) (with_reason view) ≡ with_help_of_row row plain view
unfolding with_change
parsed_now row view kind text plain is parsed =
    ap (λ (b : Bool). if b then view else with_help (fix_row_help row (kind, text)) (with_reason view)) (sym parsed)
    ∙ ap (with_change row view) is

-- the help that is added says what the row says
pub help_is : (row : FixRow) (kind : FixKind) (text : List ℕ) (line column : ℕ) (after before : View) (said : List ℕ)
    → said ≡ fix_text kind line column text → line ≡ row.start.line → column ≡ column_of row
    → after ≡ with_reason before
    → with_help said after ≡ with_help (fix_row_help row (kind, text)) (with_reason before)
help_is row kind text line column after before said says at column_is reason =
    ap (λ (s : List ℕ). with_help s after)
    (says ∙ ap (λ n. fix_text kind n column text) at ∙ ap (λ n. fix_text kind row.start.line n text) column_is)
    ∙ ap (with_help (fix_row_help row (kind, text))) reason
