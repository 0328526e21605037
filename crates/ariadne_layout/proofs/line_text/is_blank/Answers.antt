use Rattle.std.proofs.Common.{sym, ◌∙◌}
use Rattle.std.proofs.lemmas.Bool.{eqb-true}
use Rattle.ariadne_layout.proofs.Layouts.{blanks_from_mask, other_mask}
use Rattle.ariadne_layout.proofs.line_text.is_blank.Goals as goal

-- the block has no mark of another byte
pub returns : goal.returns
returns c e = blanks_from_mask c.args.block.now c.requires (sym (other_mask c.args.block.now c.requires) ∙ eqb-true _ _ e)
