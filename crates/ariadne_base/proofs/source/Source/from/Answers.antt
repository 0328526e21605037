use Rattle.std.proofs.Common.{length, ap, ◌∙◌, arith}
use Rattle.std.specs.Str.{chars}
use Rattle.ariadne_base.specs.Lines.{lines_of}
use Rattle.ariadne_base.specs.Starts.{line_starts}
use Rattle.ariadne_base.proofs.StartLemmas.{length-starts}
use Rattle.ariadne_base.proofs.source.Source.from.Goals as goal

-- there are fewer lines than starts, and those fit
pub invariant_of-result : goal.invariant_of-result
invariant_of-result g c =
    let kept = c.in_ok-starts.ensures ∙ ap (λ bs. line_starts (lines_of (chars bs))) c.text.ensures in
    let starts = c.in_ok-starts.starts in
    (kept, omega (arith, ap length kept, length-starts (lines_of (chars (g.I.SourceText.text c.args.text))), starts.ok, starts.small))
