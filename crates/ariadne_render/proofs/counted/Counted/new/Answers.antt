use Rattle.std.proofs.Common.{sym}
use Rattle.ariadne_picture.specs.Columns.{shown}
use Rattle.ariadne_layout.proofs.PlaceColumns.{whole_column-first}
use Rattle.ariadne_render.proofs.counted.Counted.new.Goals as goal

-- all characters are to come
pub returns-clause-counted : goal.returns-clause-counted
returns-clause-counted c = λ s y e. record {
  utf8 = rw c.chars.ensures.rest c.utf8.text;
  rest = rw c.chars.ensures.rest e;
  column = sym (whole_column-first s.tab_width (shown y));
}
