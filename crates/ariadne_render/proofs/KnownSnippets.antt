-- What follows from what is known of a snippet.
use Rattle.std.proofs.Common.{◌≡◌, ◌∙◌, ℕ, true, false, List, None, Some, refl, sym, ap, subst}
use Rattle.std.specs.Prelude.{is_some, Option}
use Rattle.std.specs.List.{AllByRecursion}
use Rattle.std.proofs.lemmas.Bool.{true≢false}
use Rattle.ariadne_picture.specs.declared.label_info.LineLabel.{LineLabel}
use Rattle.ariadne_picture.specs.Bars.{EndsNoEarlier}
use Rattle.ariadne_picture.specs.Pieces.{Piece}
use Rattle.ariadne_picture.specs.Ranks.{Sheet, is_hidden_line, margin_label}
use Rattle.ariadne_picture.proofs.Lists.ListFacts.{all-weaker}
use Rattle.ariadne_picture.proofs.Rows.BarCases.{hidden-margin}
use Rattle.ariadne_layout.specs.Snippets.{IsOverLines, IsSnippet, SnippetFields, sheet_in}
use Rattle.ariadne_render.specs.Pages.{PageFields}
use Rattle.ariadne_render.proofs.Drawn.{rows_page}
use Rattle.ariadne_render.specs.Gutters.{GutterFields, IsOfSheet}
use Rattle.ariadne_render.specs.RowTexts.{IsOnPage}
use Rattle.ariadne_render.specs.Writers.{IsBehind, WritesRows}
use Rattle.ariadne_render.specs.declared.writer.Writer.{Writer}

-- its labels end no earlier than they start
pub rise : (v : SnippetFields) → IsSnippet v → AllByRecursion EndsNoEarlier (sheet_in v).labels
rise v is = all-weaker (IsOverLines (sheet_in v).lines) EndsNoEarlier (sheet_in v).labels (λ a h. h.rises) is.over

-- a gutter of a group that is drawn on a page has the switches of it
pub gutter-switches : (s : Sheet) (page : PageFields) (g : GutterFields) → g.page ≡ page → IsOfSheet s g → s.switches ≡ page.switches
gutter-switches s page g e of = sym of.switches ∙ ap (λ (p : PageFields). p.switches) e

-- so the group and its texts are those of the page
pub on-page : (v : SnippetFields) (page : PageFields) (g : GutterFields) → IsSnippet v → g.page ≡ page → IsOfSheet (sheet_in v) g
    → IsOnPage v.texts v.section page
on-page v page g is e of =
    let same = gutter-switches (sheet_in v) page g e of in record { texts = is.switches ∙ same; sheet = same }

-- a hidden line has no margin label
pub hidden-none : (s : Sheet) (l : ℕ) → is_hidden_line s l ≡ true → margin_label s.labels l ≡ None
hidden-none s l h = none (margin_label s.labels l) (hidden-margin s l h)
  where
    none : (o : Option LineLabel) → is_some o ≡ false → o ≡ None
    none None e = refl
    none (Some x) e = absurd (true≢false e)

-- ---- how far the rows are written

-- behind rows that leave the bars as they were, pen and gutter are still of one page
pub one-page : (a b : Writer) (rows : List (List Piece)) → WritesRows a b rows → a.gutter.page ≡ a.pen.page → b.gutter.page ≡ b.pen.page
one-page a b rows written same =
    ap (λ (g : GutterFields). g.page) written.bars ∙ same ∙ sym (rows_page a.pen b.pen rows written.drawn)

-- behind such rows below all lines the gutter is as before them
pub behind-kept : (v : SnippetFields) (a b : Writer) (rows : List (List Piece)) → IsBehind v a → WritesRows a b rows → IsBehind v b
behind-kept v a b rows at written = record {
  is_snippet = at.is_snippet;
  one_page = one-page a b rows written at.one_page;
  gutter = subst (IsOfSheet (sheet_in v)) (sym written.bars) at.gutter;
}
