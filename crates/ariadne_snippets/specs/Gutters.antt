-- The gutter in front of a row: `  5 | text` and `    | text`, or `%  5| text`. Characters stand as their
-- numbers: 32 is a blank, 37 `%` and 124 the bar.
use Rattle.std.specs.Prelude.{ℕ, ◌-◌, ◌==◌, if◌then◌else◌, List, length}
use Rattle.std.specs.Prelude.{Option, Some, None, option_map, option_and_then, unwrap_or}
use Rattle.ariadne_snippets.specs.RowPieces.{behind, digits_in, number_in, past_blanks}
use Rattle.ariadne_snippets.specs.declared.gutter.Gutter.{Gutter}

-- what a gutter says: the number of the line that stands behind it, if it names one; where its bar stands,
-- in bytes; and what stands behind the bar and one blank
pub record GutterIn : Type 0 where
  pub number : Option ℕ
  pub bar : ℕ
  pub text : List ℕ

abbrev pub gutter_told : Gutter → GutterIn
gutter_told gutter = record { number = gutter.number; bar = gutter.bar; text = gutter.text.now }

-- a text without a character, if it begins with that
abbrev pub without : ℕ → List ℕ → List ℕ
without mark text = unwrap_or (behind mark text) text

-- the number that a text begins with, if it does, and what stands behind it: nothing, where the machine
-- doesn't have the number
unfoldable pub numbered_in : List ℕ → Option (Option ℕ × List ℕ)
numbered_in text =
    if digits_in text == 0 then Some (None, text)
    else option_map (λ found. (Some found.0, found.1)) (number_in text)

-- the gutter of a line, if it has one, by its number and what stands behind that
abbrev pub gutter_behind : List ℕ → Option ℕ × List ℕ → Option GutterIn
gutter_behind line found =
    let at_bar = past_blanks found.1 in
    option_map (λ text. record {
      number = found.0;
      bar = length line - length at_bar;
      text = without 32 text;
    }) (behind 124 at_bar)

unfoldable pub gutter_in : List ℕ → Option GutterIn
gutter_in line = option_and_then (gutter_behind line) (numbered_in (past_blanks (without 37 line)))
