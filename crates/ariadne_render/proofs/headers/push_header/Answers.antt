use Rattle.std.proofs.Common.{◌≡◌, ◌∙◌, ℕ, List, [], Bor, Option, Some, None, unwrap_or, refl, sym, ap}
use Rattle.std.proofs.lemmas.Result.{on_ok_weaker}
use Rattle.std.specs.Option.{option_copied}
use Rattle.ariadne_picture.specs.Pieces.{Texts}
use Rattle.ariadne_render.proofs.HeaderBytes.{draws_header}
use Rattle.ariadne_render.proofs.headers.push_header.Goals as goal

-- what is borrowed, or else another text
copied : (m : Option (Bor (List ℕ))) (d : Bor (List ℕ)) → (unwrap_or m d).now ≡ unwrap_or (option_copied m) d.now
copied None d = refl
copied (Some b) d = refl

-- the word of the kind, and the message
pub returns : goal.returns
unfolding lib.Utf8.encode
returns c =
    let told : c.unwrap_or.result.now ≡ unwrap_or (option_copied c.texts.inside.message) [] =
    ap (λ (b : Bor (List ℕ)). b.now) c.unwrap_or.ensures ∙ copied c.texts.inside.message _ in
    on_ok_weaker c.end_row.result
    (draws_header c.args.pen.now c.push_kind.new.pen c.push_char.new.self c.push_text.new.self c.end_row.new.self c.args.texts.now _
    c.unwrap_or.result.now (ap (λ (t : Texts). t.kind_text) (sym c.texts.view_is))
    (ap (λ (t : Texts). unwrap_or t.message []) (sym c.texts.view_is) ∙ sym told) c.in_ok-push_kind.ensures c.in_ok-push_char.ensures
    c.in_ok-push_text.ensures)
    c.end_row.ensures
