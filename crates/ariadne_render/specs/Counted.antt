-- How far the columns of a line are counted, as where it is shown whole.
use Rattle.std.specs.Prelude.{◌≡◌, drop, chars}
use Rattle.std.specs.Str.{IsUtf8}
use Rattle.std.specs.Str.Iter.{chars_rest}
use Rattle.ariadne_picture.specs.declared.switches.Switches.{Switches}
use Rattle.ariadne_picture.specs.Columns.{Layout, shown, whole_column}
use Rattle.ariadne_render.specs.declared.counted.Counted.{Counted}

-- the columns of line y are counted up to a place: the column at which it begins is at hand, and the
-- shown characters from it on are to come
pub record IsCounted (s : Switches) (y : Layout) (a : Counted) : Type 0 where
  pub utf8 : IsUtf8 (chars_rest a.rest)
  pub rest : chars (chars_rest a.rest) ≡ drop a.place (shown y)
  pub column : a.column ≡ whole_column s.tab_width (shown y) a.place
