use Rattle.std.proofs.Common.{◌≡◌, ◌<◌, true, length, take, sym, subst, ◌∙◌}
use Rattle.std.proofs.lemmas.Str.{IsUtf8-take}
use Rattle.ariadne_base.specs.Separators.{IsPlain, separator_at}
use Rattle.ariadne_base.proofs.CharStarts.{length-chars}
use Rattle.ariadne_base.proofs.SeparatorBytes.{plain_chars, separator_starts}
use Rattle.ariadne_base.proofs.blocks.run.plain_run.Goals as goal

-- the run ends where a character begins, or at the end
pub returns-clause-cut : goal.returns-clause-cut
returns-clause-cut c =
    let text = c.args.text.now in
    let n = c.plain_bytes.result.bytes in
    let run = subst (λ bs. IsPlain bs n c.plain_bytes.result.chars) c.as_bytes.ensures.value c.plain_bytes.ensures.plain in
    let end = subst (λ bs. n < length bs → separator_at bs n ≡ true) c.as_bytes.ensures.value c.plain_bytes.ensures.end in
    (run.fits, λ l high. separator_starts text n (end l) high)

pub returns-clause-plain : goal.returns-clause-plain
returns-clause-plain c =
    let text = c.args.text.now in
    let n = c.plain_bytes.result.bytes in
    let run = subst (λ bs. IsPlain bs n c.plain_bytes.result.chars) c.as_bytes.ensures.value c.plain_bytes.ensures.plain in
    plain_chars text n c.utf8.text (returns-clause-cut c) run.plain

pub returns-clause-count : goal.returns-clause-count
returns-clause-count c =
    let text = c.args.text.now in
    let n = c.plain_bytes.result.bytes in
    let run = subst (λ bs. IsPlain bs n c.plain_bytes.result.chars) c.as_bytes.ensures.value c.plain_bytes.ensures.plain in
    run.count ∙ sym (length-chars (take n text) (IsUtf8-take text n c.utf8.text (returns-clause-cut c)))
