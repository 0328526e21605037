-- What a row asks of the bars of a gutter.
use Rattle.std.specs.Prelude.{ℕ, ◌≡◌, ◌<◌, Bool, false, ◌&&◌, ◌==◌, not, length, slice_get, Option, Some, None}
use Rattle.ariadne_picture.specs.declared.label_info.LineLabel.{LineLabel}
use Rattle.ariadne_picture.specs.Ranks.{Sheet, gutter_labels, is_inline, line_labels}
use Rattle.ariadne_picture.specs.Rows.{Row, arrow, source}
use Rattle.ariadne_picture.specs.Strokes.{bar_at, is_at_margin}
use Rattle.ariadne_render.specs.Gutters.{GutterFields, IsOfSheet, bar_in}

-- column i is that of the row's own label, whose stroke stands there in place of a bar
unfoldable pub is_own_column : Option LineLabel → ℕ → Bool
is_own_column None i = false
is_own_column (Some x) i = not (is_inline x.side) && (x.gutter_column == i)

-- the row's own label has column i
unfoldable pub owns_column : Sheet → Row → ℕ → Bool
owns_column s (source l) i = is_at_margin s l i
owns_column s (arrow l r) i = is_own_column (slice_get (line_labels s.labels l) r) i
owns_column s x i = false

-- the bars of row x, in the columns that are not those of its own label
pub record HasBarsOf (s : Sheet) (x : Row) (g : GutterFields) : Type 0 where
  pub sheet : IsOfSheet s g
  pub len : length g.bars ≡ length (gutter_labels s.labels)
  pub bars : (i : ℕ) → i < length (gutter_labels s.labels) → owns_column s x i ≡ false
      → bar_in g.bars i ≡ bar_at s x i
