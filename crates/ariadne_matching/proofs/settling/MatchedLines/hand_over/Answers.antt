use Rattle.std.proofs.Common.{◌∙◌, ap, min}
use Rattle.std.specs.Prelude.{Vec}
use Rattle.std.specs.declared.alloc.Global.{Global}
use Rattle.ariadne_matching.specs.declared.lines.Waiting.{Waiting}
use Rattle.ariadne_matching.proofs.Settled.{handed_first}
use Rattle.ariadne_matching.proofs.settling.MatchedLines.hand_over.Goals as goal

-- the lines of the report wait no more
pub returns : goal.returns
returns g c =
    let old = c.args.self.now in
    handed_first old.waiting.items c.replace-front.new.dest.items old.ready.items c.append.new.self.items c.args.report c.min.result
    c.requires (ap (λ (lines : Vec Waiting Global). lines.items) c.replace-front.ensures.after ∙ c.in_ok-behind.ensures.tail)
    (c.min.ensures ∙ ap (min c.args.report.count) (c.len.ensures ∙ old.waiting.ok.0)) c.in_ok-append.ensures.items
