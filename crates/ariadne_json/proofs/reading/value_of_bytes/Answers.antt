use Rattle.std.proofs.Common.{rules, ◌≡◌, ◌∙◌, Bool, true, false, Option, None, sym, cond, refl}
use Rattle.std.proofs.lemmas.Bool.{cond-true}
use Rattle.std.proofs.lemmas.Str.{IsUtf8-from_is_utf8, is_utf8-from_IsUtf8}
use Rattle.std.specs.Str.{is_utf8}
use Rattle.serde_json.specs.Data.{Data}
use Rattle.serde_json.specs.Read.{read}
use Rattle.ariadne_json.proofs.reading.value_of_bytes.Goals as goal

-- bytes that are read are UTF-8
pub returns-in-Ok-clause-value : goal.returns-in-Ok-clause-value
returns-in-Ok-clause-value c =
    sym (cond-true (is_utf8 c.args.bytes.now) (read c.args.bytes.now) None
    (is_utf8-from_IsUtf8 c.args.bytes.now c.in-Ok.ensures.ok.0) ∙ c.in-Ok.ensures.ok.1)

-- bytes that are refused are not, or no JSON
refused : (b : Bool) (value : Option Data) → (b ≡ true → value ≡ None) → None ≡ cond b value None
refused true value none = sym (none refl)
refused false value none = refl

pub returns-in-Err-2-clause-value : goal.returns-in-Err-2-clause-value
returns-in-Err-2-clause-value c =
    refused (is_utf8 c.args.bytes.now) (read c.args.bytes.now)
    (λ is. c.in-Err-2.ensures.err (search rules) (IsUtf8-from_is_utf8 c.args.bytes.now is))
