-- What follows from what is known of a snippet, and from how far its lines are written.
use Rattle.std.proofs.Common.{◌≡◌, ◌∙◌, ℕ, ◌+◌, ◌≤◌, Bool, false, List, [], ◌∷◌, Some, sym, ap, arith, subst}
use Rattle.std.specs.Prelude.{slice_get, slice_set}
use Rattle.std.specs.List.{AllByRecursion}
use Rattle.ariadne_picture.specs.declared.label_info.LineLabel.{LineLabel}
use Rattle.ariadne_picture.specs.declared.switches.Switches.{Switches}
use Rattle.ariadne_picture.specs.Bars.{EndsNoEarlier}
use Rattle.ariadne_picture.specs.Columns.{Layout}
use Rattle.ariadne_picture.specs.Pieces.{Piece}
use Rattle.ariadne_picture.specs.Ranks.{Sheet, is_inline, is_start, line_labels}
use Rattle.ariadne_picture.proofs.Rows.NearLines.{hidden-bare}
use Rattle.ariadne_layout.specs.Tables.{AreVerticals, IsTable}
use Rattle.ariadne_layout.specs.declared.table.LineTable.{LineTable}
use Rattle.ariadne_layout.specs.declared.verticals.Vertical.{Vertical}
use Rattle.ariadne_layout.specs.Snippets.{LineFields, SnippetFields, layout_at, sheet_at, sheet_in}
use Rattle.ariadne_render.specs.Pages.{PageFields}
use Rattle.ariadne_render.proofs.Drawn.{draws_rows_one, rows_page}
use Rattle.ariadne_render.specs.Gutters.{GutterFields, IsBelow, IsBeside}
use Rattle.ariadne_render.specs.Writers.{IsAtRank, IsBelowAt, IsBesideAt, WritesRow, WritesRows}
use Rattle.ariadne_render.specs.declared.writer.Writer.{Writer}
use Rattle.ariadne_render.proofs.GutterSteps.{below-next, unlabelled-run}
use Rattle.ariadne_render.proofs.KnownSnippets.{one-page, rise}
use Rattle.ariadne_render.specs.declared.lines.Lists.{Lists}
use Rattle.ariadne_render.specs.DrawnLines.{AreHidden, IsAt}

-- the page as the code reads it is compact, or not
pub page-compact : (page shown : PageFields) (read : Switches) (b : Bool) → shown ≡ page → read ≡ shown.switches → read.compact ≡ b
    → page.switches.compact ≡ b
page-compact page shown read b e f h =
    ap (λ (p : PageFields). p.switches.compact) (sym e) ∙ ap (λ (w : Switches). w.compact) (sym f) ∙ h

-- below the rows of a start or an end its bar is set
pub below-set : (s : Sheet) (l r : ℕ) (x : LineLabel) (g h : GutterFields) (b : Bool) → AllByRecursion EndsNoEarlier s.labels → IsBelow s l r g
    → slice_get (line_labels s.labels l) r ≡ Some x → is_inline x.side ≡ false → b ≡ is_start x.side
    → h ≡ record g { bars = slice_set g.bars x.gutter_column b } → IsBelow s l (r + 1) h
below-set s l r x g h b rise at there out e set =
    below-next s l r x g h rise at there out (set ∙ ap (λ b. record g { bars = slice_set g.bars x.gutter_column b }) e)

-- behind hidden lines the bars are those beside the first of them
pub at-behind : (v : SnippetFields) (l m : ℕ) (w : Writer) (lists : Lists) → IsAt v l w lists → AreHidden (sheet_in v) l m → l ≤ m
    → IsAt v m w lists
at-behind v l m w lists at h up =
    let above = at.above in
    let onward = at.onward in
    record {
      above = record {
        is_snippet = above.is_snippet;
        one_page = above.one_page;
        bars = unlabelled-run (sheet_in v) l m w.gutter (rise v above.is_snippet) above.bars
            (λ j low less. hidden-bare (sheet_in v) j (h.hidden j low less)) up;
      };
      labels = at.labels;
      onward = omega (arith, onward, up);
      known = at.known;
    }

-- behind rows that leave the bars as they were the bars beside a line are as before them
pub beside-kept : (v : SnippetFields) (l : ℕ) (a b : Writer) (rows : List (List Piece)) → IsBesideAt v l a → WritesRows a b rows → IsBesideAt v l b
beside-kept v l a b rows at written = record {
  is_snippet = at.is_snippet;
  one_page = one-page a b rows written at.one_page;
  bars = subst (IsBeside (sheet_in v) l) (sym written.bars) at.bars;
}

-- so are those beside the rows of a rank
pub below-kept : (v : LineFields) (r : ℕ) (a b : Writer) (rows : List (List Piece)) → IsBelowAt v r a → WritesRows a b rows → IsBelowAt v r b
below-kept v r a b rows at written = record {
  is_snippet = at.is_snippet;
  one_page = one-page a b rows written at.one_page;
  bars = subst (IsBelow (sheet_at v) v.line r) (sym written.bars) at.bars;
}

-- and the table is still that of them
pub rank-kept : (v : LineFields) (r : ℕ) (a b : Writer) (table : LineTable) (rows : List (List Piece)) → IsAtRank v r a table → WritesRows a b rows
    → IsAtRank v r b table
rank-kept v r a b table rows at written = record {
  below = below-kept v r a b rows at.below written;
  is_table = subst (λ (p : PageFields). IsTable p.switches (layout_at v) r table) (sym (rows_page a.pen b.pen rows written.drawn)) at.is_table;
}

-- one row is a list of one
pub one-row : (a b : Writer) (row : List Piece) → WritesRow a b row → WritesRows a b (row ∷ [])
one-row a b row written = record { drawn = draws_rows_one a.pen b.pen row written.drawn; bars = written.bars }

-- below the rows of a line label its vertical is seen no more
pub table-passed : (switches : Switches) (y z : Layout) (r : ℕ) (table : LineTable) (verticals : List Vertical) → z ≡ y
    → IsTable switches y r table → (AreVerticals z r table.verticals → AreVerticals z (r + 1) verticals)
    → IsTable switches y (r + 1) (record table { verticals = verticals })
table-passed switches y z r table verticals e h passed = record {
  len = h.len;
  columns = h.columns;
  verticals = subst (λ (q : Layout). AreVerticals q (r + 1) verticals) e (passed (subst (λ (q : Layout). AreVerticals q r table.verticals) (sym e) h.verticals));
  underline_row = h.underline_row;
  underlines = h.underlines;
}
