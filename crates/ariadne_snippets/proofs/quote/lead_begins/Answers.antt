use Rattle.std.proofs.Common.{◌∙◌, ◌-◌, ap}
use Rattle.ariadne_parse.specs.declared.unit.Unit.TheVariants.{Display}
use Rattle.ariadne_snippets.proofs.Leading.{begins_more, column_more}
use Rattle.ariadne_snippets.proofs.quote.lead_begins.Goals as goal

-- one more character is passed
pub loop-place-preserved : goal.loop-place-preserved
loop-place-preserved c = (
  column_more Display c.args.lead.now c.loop-place.place c.loop-place.at c.index-lead-place.result c.columns_of.result
      c.saturating_add-at.result c.loop-place-test.true c.index-lead-place.is c.loop-place.invariant.0 c.columns_of.ensures
      c.saturating_add-at.ensures,
  begins_more c.args.lead.now c.args.start c.loop-place.place c.loop-place.at c.saturating_sub.result
      c.saturating_sub-aligned.result c.min.result c.max.result c.loop-place.begins.items c.push.new.self.items
      c.loop-place.invariant.0 (c.saturating_sub.ensures ∙ ap (λ n. n - c.loop-place.at) c.column_behind-width.ensures)
      c.saturating_sub-aligned.ensures c.min.ensures c.max.ensures c.loop-place.invariant.1 (c.in_ok-push.ensures).items,
)
