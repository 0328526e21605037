-- The rows of a picture are the lines that are sent, where no cell has a line feed.
use Rattle.std.proofs.Common.{◌≡◌, ◌≢◌, ℕ, false, List, [], ◌∷◌, ◌++◌, map, None, refl, ap, ◌∙◌, ◌==◌, append_assoc}
use Rattle.std.specs.List.{AllByRecursion}
use Rattle.std.proofs.lemmas.Bool.{ne_eqb}
use Rattle.ariadne_picture.specs.declared.label_info.LabelInfo.{LabelInfo}
use Rattle.ariadne_picture.specs.Lists.{joined}
use Rattle.ariadne_picture.specs.Report.{ReportFields, World}
use Rattle.ariadne_picture.specs.Canvas.{Cell, canvas}
use Rattle.ariadne_picture.specs.Print.{cell_bytes, line_bytes, printed, erased}
use Rattle.ariadne_picture.specs.Sent.{row_text, lines_sent, HaveNoLineFeeds, RowsAreLines}
use Rattle.ariadne_picture.specs.Variants.{HaveNoEscapes}
use Rattle.ariadne_picture.proofs.Lists.ListFacts.{all-joined}
use Rattle.ariadne_picture.proofs.Lists.Joined.{joined-map}
use Rattle.ariadne_picture.proofs.Variants.CleanTexts.{IsClean}
use Rattle.ariadne_picture.proofs.Variants.Escapes.{unescaped-printed}
use Rattle.ariadne_picture.proofs.Variants.PlainTexts.{no-cell-escapes, no-cell-feeds}

-- a cell without line feed
abbrev IsLineCell : Cell → Type 0
IsLineCell c = IsClean 10 c.text

-- a text without line feed, and the line feed behind it, is the first line
split-line : (s t : List ℕ) → IsClean 10 s → lines_sent (s ++ 10 ∷ t) ≡ s ∷ lines_sent t
split-line [] t a = refl
split-line (b ∷ s) t a =
    let f : (b == 10) ≡ false = ne_eqb b 10 a.0 in
    let more = split-line s t a.1 in
    rw (f, more) refl

-- a row without colours is sent as its text and a line feed
line-is : (row : List Cell) → line_bytes (map (λ (c : Cell). record c { color = None }) row) ≡ row_text row ++ 10 ∷ []
unfolding line_bytes cell_bytes row_text
line-is row = ap (λ t. t ++ 10 ∷ []) (joined-map cell_bytes (λ (c : Cell). record c { color = None }) row)

-- a row of cells of one line
whole-row : (row : List Cell) → AllByRecursion IsLineCell row → IsClean 10 (row_text row)
unfolding row_text
whole-row row a = all-joined (λ b. b ≢ 10) IsLineCell (λ (c : Cell). c.text) row (λ c h. h) a

-- so the lines are the texts of the rows, and nothing behind the last line feed
lines-printed : (rows : List (List Cell)) → AllByRecursion (AllByRecursion IsLineCell) rows
    → lines_sent (printed (erased rows)) ≡ map row_text rows ++ [] ∷ []
unfolding printed joined
lines-printed [] a = refl
lines-printed (row ∷ rows) a =
    let rest : List ℕ = printed (erased rows) in
    let first : IsClean 10 (row_text row) = whole-row row a.0 in
    let bytes : printed (erased (row ∷ rows)) ≡ row_text row ++ 10 ∷ rest =
    ap (λ t. t ++ rest) (line-is row) ∙ append_assoc (row_text row) (10 ∷ []) rest in
    ap lines_sent bytes ∙ split-line (row_text row) rest first ∙ ap (λ t. row_text row ∷ t) (lines-printed rows a.1)

-- of every picture
pub rows-are-lines : {S Id : Type 0} (w : World S Id) (r : ReportFields S) (infos : List LabelInfo) → HaveNoEscapes w r → HaveNoLineFeeds w r
    → RowsAreLines (canvas w r infos)
rows-are-lines w r infos none one =
    ap lines_sent (unescaped-printed (canvas w r infos) (no-cell-escapes w r infos none))
    ∙ lines-printed (canvas w r infos) (no-cell-feeds w r infos one)
