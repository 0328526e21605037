use Rattle.std.proofs.Common.{◌∙◌, ap, sym}
use Rattle.ariadne_show.specs.Limits.{drawn_after, is_drawn}
use Rattle.ariadne_show.specs.declared.limits.Limits.{Limits}
use Rattle.ariadne_show.proofs.Passed.{counted_only, counted_written}
use Rattle.ariadne_show.proofs.writing.show_one.Goals as goal

-- it was counted alone
pub returns-then-not-take : goal.returns-then-not-take
returns-then-not-take g c =
    counted_only c.args.options.now c.args.shelf.now c.args.parsed.now c.args.shown.now c.count.new.self c.take.new.self _ _
    c.count.ensures
    (c.take.ensures.counted ∙ ap (λ (l : Limits). drawn_after l c.args.parsed.now c.args.shown.now.drawn) c.limits_of.ensures)
    (ap (λ (l : Limits). is_drawn l c.args.parsed.now c.args.shown.now.drawn) (sym c.limits_of.ensures)
    ∙ sym c.take.ensures.drawn ∙ c.if-not-take.true)

-- it was written
pub returns : goal.returns
returns g c =
    rw (← c.streams.view_is)
    (counted_written c.args.options.now c.args.shelf.now c.args.parsed.now c.args.shown.now c.count.new.self c.take.new.self
    c.in_ok-shown.field-0 (g.W.Write.contents c.streams.inside.out) _ (g.F.Write.contents c.streams.inside.beside)
    c.count.ensures
    (c.take.ensures.counted ∙ ap (λ (l : Limits). drawn_after l c.args.parsed.now c.args.shown.now.drawn) c.limits_of.ensures)
    (ap (λ (l : Limits). is_drawn l c.args.parsed.now c.args.shown.now.drawn) (sym c.limits_of.ensures)
    ∙ sym c.take.ensures.drawn ∙ c.if-not-take.false)
    c.in_ok-shown.ensures)
