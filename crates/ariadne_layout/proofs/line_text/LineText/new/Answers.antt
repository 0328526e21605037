use Rattle.std.proofs.Common.{◌≡◌, length, ◌∙◌, sym, ap}
use Rattle.std.specs.Str.{chars, drop_trailing_whitespace}
use Rattle.ariadne_layout.proofs.Layouts.{chars-trim_end, length-trim_end}
use Rattle.ariadne_layout.proofs.line_text.LineText.new.Goals as goal
use Rattle.ariadne_layout.proofs.line_text.LineText.new.Goals.{then-text-len, else-text-len}

-- the shown text is the trimmed one, and its characters are counted where they are not its bytes
pub invariant_of-result : goal.invariant_of-result
invariant_of-result c =
    let text = c.args.text.now in
    let shown = c.shown_part-shown.result.now in
    let trim = c.shown_part-shown.ensures in
    let trimmed : chars shown ≡ drop_trailing_whitespace (chars text) = ap chars trim ∙ chars-trim_end text c.utf8.text in
    let counted : c.if-text-len.shown_len ≡ length (chars shown) =
    elim c.if-text-len.branch [
      | then-text-len w ↦
          let ascii = length-trim_end text c.utf8.text (w.if-text-len.true ∙ c.requires.len) in
          w.shown_len-is ∙ ap length trim ∙ ascii ∙ sym (ap (λ t. length (chars t)) trim)
      | else-text-len w ↦ w.shown_len-is ∙ w.count_chars-shown_len.ensures
    ] in
    (c.requires.len, trimmed, counted, c.is_printable-is_plain.ensures)
