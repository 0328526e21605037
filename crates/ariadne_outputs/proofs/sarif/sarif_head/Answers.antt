use Rattle.std.proofs.Common.{◌≡◌, ◌∙◌, ◌++◌, ap, string_bytes}
use Rattle.serde_json.specs.Written.{compact_text, has_float}
use Rattle.ariadne_outputs.specs.Sarif.{driver_of}
use Rattle.ariadne_outputs.specs.declared.sarif.TheConstants.{BEHIND, FRONT}
use Rattle.ariadne_outputs.proofs.Related.{driver_none}
use Rattle.ariadne_outputs.proofs.sarif.sarif_head.Goals as goal

-- the program between two texts
pub returns : goal.returns
returns c =
    let none = ap has_float c.in_ok-driver.ensures ∙ driver_none c.args.version.now in
    let driver : string_bytes c.in_ok-driver-2.driver ≡ compact_text (driver_of c.args.version.now) =
    c.in_ok-driver-2.ensures.text none ∙ ap compact_text c.in_ok-driver.ensures in
    c.in_ok-push_str-2.ensures.bytes
    ∙ ap (λ t. t ++ BEHIND.now)
    (c.in_ok-push_str.ensures.bytes ∙ ap (λ t. t ++ c.as_str.result.now) c.in_ok-text.ensures.ok
    ∙ ap (λ t. FRONT.now ++ t) (c.as_str.ensures.value ∙ driver))
