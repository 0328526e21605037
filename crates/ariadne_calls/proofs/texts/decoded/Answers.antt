-- The empty text is UTF-8, and of other bytes it is told which are.
use Rattle.std.proofs.Common.{◌∙◌, sym, eqb-true}
use Rattle.std.specs.Prelude.{length}
use Rattle.std.proofs.lemmas.Str.{is_utf8-from_IsUtf8}
use Rattle.ariadne_calls.proofs.Utf8.{empty_utf8, no_utf8}
use Rattle.ariadne_calls.proofs.texts.decoded.Goals as goal

pub returns-then-is_empty-clause-some : goal.returns-then-is_empty-clause-some
returns-then-is_empty-clause-some c =
    empty_utf8 c.args.bytes.now (eqb-true (length c.args.bytes.now) 0 (sym c.is_empty.ensures ∙ c.if-is_empty.true))

pub returns-in-Ok-clause-some : goal.returns-in-Ok-clause-some
returns-in-Ok-clause-some c = is_utf8-from_IsUtf8 c.args.bytes.now c.in-Ok.ensures.cases.1

pub returns-in-Err-clause-none : goal.returns-in-Err-clause-none
returns-in-Err-clause-none c = λ _. no_utf8 c.args.bytes.now c.in-Err.ensures.cases.0
