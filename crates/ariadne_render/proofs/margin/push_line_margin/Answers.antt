use Rattle.std.proofs.Common.{rules, append_assoc, ◌≡◌, ℕ, ◌+◌, ◌++◌, OnOk, refl, string_bytes}
use Rattle.ariadne_picture.specs.Groups.{printed_number}
use Rattle.ariadne_picture.specs.Pieces.{glyph_text}
use Rattle.ariadne_render.proofs.Margins.{line_bytes, numbered}
use Rattle.ariadne_render.proofs.margin.push_line_margin.Goals as goal

-- the number of a line as it is printed
printed : (display_offset line : ℕ) → line + 1 + display_offset ≡ printed_number display_offset line
unfolding printed_number
printed display_offset line = refl

-- text after text
pub returns : goal.returns
unfolding glyph_text
returns c =
    let page = c.args.page.now in
    let number = c.args.line + 1 + c.args.display_offset in
    let margin = numbered page.palette page.switches page.number_width number in
    let written : OnOk c.push_margin_end.result (string_bytes c.push_margin_end.new.out ≡ string_bytes c.args.out.now ++ margin) =
    search (rules, append_assoc) in
    rw (line_bytes page.palette page.switches page.number_width number c.args.display_offset c.args.line (printed c.args.display_offset c.args.line)) written
