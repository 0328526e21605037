use Rattle.std.proofs.Common.{◌≡◌, ◌∙◌, ℕ, ◌-◌, List, ◌++◌, ap, length, refl, replicate, subst, string_bytes}
use Rattle.std.specs.Prelude.{decimal, encode_utf8_all, OnOk}
use Rattle.std.specs.Str.{chars}
use Rattle.ariadne_base.specs.Listing.{listed_lines}
use Rattle.ariadne_base.specs.Locations.{line_text}
use Rattle.ariadne_edits.specs.Views.{shown_line}
use Rattle.ariadne_edits.specs.HelpTexts.{line_shown, number_of, row_text}
use Rattle.ariadne_edits.proofs.Pushing.{then_pushed}
use Rattle.ariadne_edits.proofs.drawing.push_row.Goals as goal

pub returns : goal.returns
unfolding row_text
returns c =
    let out = string_bytes c.args.out.now in
    let blanks : ℕ → List ℕ = λ n. replicate (c.args.layout.width - length (decimal n)) 32 in
    let number : ℕ = number_of c.args.layout.offset c.args.i in
    let view = c.args.layout.view in
    let look = c.args.look in
    let front = string_bytes c.push_str.new.self in
    let line : List ℕ = line_shown view (listed_lines c.args.lines.now) c.args.i look (listed_lines c.args.others.now) in
    let same : shown_line view look.blanks (chars c.text_of.result.now) (chars c.counterpart_text-other.result.now) ≡ line =
    ap (λ l. shown_line view look.blanks l (chars c.counterpart_text-other.result.now)) c.text_of.ensures
    ∙ ap (shown_line view look.blanks (line_text (listed_lines c.args.lines.now) c.args.i)) c.counterpart_text-other.ensures in
    let numbered : string_bytes c.push_number.new.out ≡ out ++ (blanks number ++ decimal number) = c.in_ok-push_number.ensures ∙ ap (λ n. out ++ (blanks n ++ decimal n)) c.number_of.ensures in
    let signed = then_pushed out (blanks number ++ decimal number) c.args.sign.now (string_bytes c.push_number.new.out) front numbered c.in_ok-push_str.ensures.bytes in
    subst (λ x. OnOk c.push_line.result (string_bytes c.push_line.new.out ≡ x))
    (ap (λ l. front ++ encode_utf8_all l) same
    ∙ then_pushed out ((blanks number ++ decimal number) ++ c.args.sign.now) (encode_utf8_all line) front (front ++ encode_utf8_all line) signed refl)
    c.push_line.ensures
