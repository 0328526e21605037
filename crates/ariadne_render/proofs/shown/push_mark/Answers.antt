use Rattle.std.proofs.Common.{◌≡◌, ◌∙◌, [], ◌∷◌, sym, ap, subst}
use Rattle.std.specs.Prelude.{OnOk}
use Rattle.std.proofs.lemmas.Result.{on_ok_weaker}
use Rattle.ariadne_picture.specs.declared.switches.CharSet.{CharSet}
use Rattle.ariadne_picture.specs.declared.switches.CharSet.TheVariants.{Unicode, Ascii}
use Rattle.ariadne_picture.specs.declared.switches.Switches.{Switches}
use Rattle.ariadne_picture.specs.Pieces.{mark_text}
use Rattle.ariadne_render.specs.Pages.{Draws, PageFields}
use Rattle.ariadne_render.proofs.Drawn.{draws_one}
use Rattle.ariadne_render.specs.ShownTexts.{mark_of}
use Rattle.ariadne_render.proofs.shown.push_mark.Goals as goal

-- the mark of Unicode is a character
pub returns-in-Unicode : goal.returns-in-Unicode
unfolding mark_text
returns-in-Unicode c =
    let pen = c.args.pen.now in
    let new = c.push_piece_char.new.self in
    let set : c.switches.result.now.char_set ≡ pen.page.switches.char_set =
    ap (λ (s : Switches). s.char_set) (c.switches.ensures.switches ∙ ap (λ (p : PageFields). p.switches) c.page.ensures) in
    subst (λ (set : CharSet). OnOk c.push_piece_char.result (Draws pen new (mark_of set c.args.paint ∷ [])))
    (sym c.in-Unicode.is ∙ set)
    (on_ok_weaker c.push_piece_char.result (λ h. draws_one pen new (mark_of Unicode c.args.paint) h) c.push_piece_char.ensures)

-- that of ASCII is a text
pub returns-in-Ascii : goal.returns-in-Ascii
unfolding mark_text
returns-in-Ascii c =
    let pen = c.args.pen.now in
    let new = c.push_piece.new.self in
    let set : c.switches.result.now.char_set ≡ pen.page.switches.char_set =
    ap (λ (s : Switches). s.char_set) (c.switches.ensures.switches ∙ ap (λ (p : PageFields). p.switches) c.page.ensures) in
    subst (λ (set : CharSet). OnOk c.push_piece.result (Draws pen new (mark_of set c.args.paint ∷ [])))
    (sym c.in-Ascii.is ∙ set)
    (on_ok_weaker c.push_piece.result (λ h. draws_one pen new (mark_of Ascii c.args.paint) h) c.push_piece.ensures)
