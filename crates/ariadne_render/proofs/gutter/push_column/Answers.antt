use Rattle.std.proofs.Common.{◌≡◌, ◌++◌, ◌-◌, sym, ap, ◌∙◌, string_bytes, append_assoc, encode_utf8}
use Rattle.std.proofs.lemmas.Result.{IfOk-equal}
use Rattle.ariadne_color.specs.Colors.{painted}
use Rattle.ariadne_picture.specs.declared.cell.Glyph.TheVariants.{Vbar}
use Rattle.ariadne_picture.specs.declared.switches.Switches.{Switches}
use Rattle.ariadne_picture.specs.Cells.{glyph_code}
use Rattle.ariadne_picture.specs.Pieces.{column_size, glyph_text, spaces}
use Rattle.ariadne_render.specs.Gutters.{bar_ink, column_bytes}
use Rattle.ariadne_render.proofs.GutterBytes.{bar-column, blank-column, no-bar}
use Rattle.ariadne_render.proofs.gutter.push_column.Goals as goal

-- a bar, and blanks
pub returns-in_ok-push_painted_char-in-Some : goal.returns-in_ok-push_painted_char-in-Some
unfolding glyph_text
returns-in_ok-push_painted_char-in-Some c =
    let page = c.args.page.now in
    let old = string_bytes c.args.out.now in
    let size = c.column_size-size.ensures.size ∙ ap column_size c.switches-switches.ensures.switches in
    let bar = c.in_ok-push_painted_char-in-Some.ensures.ok in
    let char = c.to_char.ensures ∙ ap (λ (s : Switches). glyph_code s.char_set Vbar) c.switches-switches.ensures.switches in
    let there : string_bytes c.push_painted_char.new.out ++ spaces (c.column_size-size.result - 1) ≡ old ++ column_bytes page (bar_ink Vbar c.args.bar) =
    (λ i. bar i ++ spaces (size i - 1)) ∙ append_assoc old _ _
    ∙ ap (λ t. old ++ t) ((λ i. painted (c.color_of-color.ensures i) (encode_utf8 (char i)) ++ spaces (column_size page.switches - 1))
    ∙ sym (bar-column page Vbar c.in-Some.position) ∙ ap (λ b. column_bytes page (bar_ink Vbar b)) (sym c.in-Some.is)) in
    IfOk-equal c.push_blanks.result _ _ _ c.push_blanks.ensures.bytes there

-- blanks alone
pub returns-in-None : goal.returns-in-None
returns-in-None c =
    let page = c.args.page.now in
    let size = c.column_size-size.ensures.size ∙ ap column_size c.switches-switches.ensures.switches in
    let there : spaces c.column_size-size.result ≡ column_bytes page (bar_ink Vbar c.args.bar) =
    ap spaces size ∙ sym (blank-column page) ∙ ap (column_bytes page) (no-bar Vbar) ∙ ap (λ b. column_bytes page (bar_ink Vbar b)) (sym c.in-None.is) in
    rw there at c.push_blanks-in-None.ensures.bytes
