use Rattle.ariadne_render.proofs.GutterState.{ready-none}
use Rattle.ariadne_render.proofs.gutter.Gutter.new.Goals as goal

-- without columns there is no text
pub invariant_of-result : goal.invariant_of-result
invariant_of-result c = ready-none _ _ _ c.new.ensures.items c.new-2.ensures.items c.new-3.ensures.bytes c.new-4.ensures.items
