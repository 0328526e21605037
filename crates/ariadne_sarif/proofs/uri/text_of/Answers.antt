use Rattle.std.proofs.Common.{◌≡◌, ◌∙◌, ℕ, List, cond, refl, sym}
use Rattle.std.proofs.lemmas.Bool.{cond-true}
use Rattle.std.proofs.lemmas.Result.{IfOk-weaker}
use Rattle.std.proofs.lemmas.Str.{IsUtf8-from_is_utf8, is_utf8-from_IsUtf8}
use Rattle.std.specs.Prelude.{Bool, true, false}
use Rattle.std.specs.Str.{is_utf8}
use Rattle.ariadne_sarif.proofs.uri.text_of.Goals as goal

-- bytes that are read are UTF-8
pub returns-in-Ok : goal.returns-in-Ok
returns-in-Ok c =
    IfOk-weaker c.from_str.result _ _
    (λ text e. e ∙ c.in-Ok.ensures.cases.0
    ∙ sym (cond-true (is_utf8 c.args.bytes.now) c.args.bytes.now c.args.other.now (is_utf8-from_IsUtf8 c.args.bytes.now c.in-Ok.ensures.cases.1)))
    c.from_str.ensures.ok

-- bytes that are refused are not
refused : (b : Bool) (bytes other : List ℕ) → (b ≡ true → ⊥) → other ≡ cond b bytes other
refused true bytes other not_so = absurd (not_so refl)
refused false bytes other not_so = refl

pub returns-in-Err : goal.returns-in-Err
returns-in-Err c =
    IfOk-weaker c.from_str-in-Err.result _ _
    (λ text e. e ∙ refused (is_utf8 c.args.bytes.now) c.args.bytes.now c.args.other.now
    (λ is. c.in-Err.ensures.cases.0 (IsUtf8-from_is_utf8 c.args.bytes.now is)))
    c.from_str-in-Err.ensures.ok
