-- The lists are those of no labels.
use Rattle.std.proofs.Common.{refl}
use Rattle.ariadne_layout.proofs.Listing.{no-lists, none-gone}
use Rattle.ariadne_layout.proofs.snippet_labels.SnippetLabels.new.Goals as goal

pub invariant_of-result : goal.invariant_of-result
invariant_of-result c = (
  no-lists _ _ _ _ c.new.ensures.items c.new-2.ensures.items c.new-3.ensures.items c.new-4.ensures.items,
  none-gone _ 0 0 _ c.new.ensures.items refl c.new-5.ensures.items,
)
