use Rattle.std.proofs.Common.{◌≡◌, Bool, true, false, ◌&&◌, List, ℕ, IfOk, ap, sym, subst}
use Rattle.std.proofs.lemmas.Bool.{false_from_ne_true}
use Rattle.std.proofs.lemmas.Str.{IsUtf8-from_is_utf8, is_utf8-from_IsUtf8}
use Rattle.std.specs.Prelude.{is_none}
use Rattle.std.specs.Str.{is_utf8}
use Rattle.json.specs.Word.{after_number}
use Rattle.serde_json.specs.Read.{read}
use Rattle.ariadne_json.specs.Mended.{is_end}
use Rattle.ariadne_json.proofs.mended.is_beyond.Goals as goal

-- a piece is refused where its text is
pub returns-in-Ok : goal.returns-in-Ok
returns-in-Ok c =
    let piece : List ℕ = c.args.piece.now in
    let text : c.in-Ok.text.now ≡ piece = c.in-Ok.ensures.cases.0 in
    let utf8 : is_utf8 piece ≡ true = is_utf8-from_IsUtf8 piece c.in-Ok.ensures.cases.1 in
    subst (λ (b : Bool). IfOk c.is_refused.result (λ is. is ≡ (b && (is_end (after_number piece) && is_none (read piece))))) (sym utf8)
    (subst (λ (t : List ℕ). IfOk c.is_refused.result (λ is. is ≡ (is_end (after_number t) && is_none (read t)))) text
    c.is_refused.ensures)

-- one without a text is not
pub returns-in-Err : goal.returns-in-Err
returns-in-Err c =
    let piece : List ℕ = c.args.piece.now in
    let other : is_utf8 piece ≡ false =
    false_from_ne_true (is_utf8 piece) (λ e. c.in-Err.ensures.cases.0 (IsUtf8-from_is_utf8 piece e)) in
    ap (λ b. b && (is_end (after_number piece) && is_none (read piece))) (sym other)
