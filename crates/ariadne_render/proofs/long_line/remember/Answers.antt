-- What is remembered is read off the layout.
use Rattle.std.proofs.Common.{ap, ◌∙◌}
use Rattle.ariadne_layout.specs.Ends.{shown_bytes}
use Rattle.ariadne_render.proofs.LongLines.{bytes_shown}
use Rattle.ariadne_render.proofs.long_line.remember.Goals as goal

pub returns-then-saturating_sub-ge-MUCH : goal.returns-then-saturating_sub-ge-MUCH
returns-then-saturating_sub-ge-MUCH c = λ lines text known.
    bytes_shown c.args.layout.now c.shown-shown.result.now c.shown-shown.utf8 c.shown-shown.ensures ∙ ap shown_bytes text
