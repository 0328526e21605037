-- The rows of a line's labels, as they are written one after another.
use Rattle.std.proofs.Common.{◌≡◌, ◌∙◌, ℕ, zero, suc, ◌+◌, ◌<◌, Bool, true, false, List, [], ◌∷◌, ◌++◌, length, map, get_or, take, refl, sym, ap}
use Rattle.std.proofs.Common.{subst, arith, Some}
use Rattle.std.specs.Prelude.{slice_get}
use Rattle.std.specs.List.{enumerate_from}
use Rattle.std.proofs.lemmas.List.{map-append}
use Rattle.std.proofs.lemmas.Option.{slice_get_within, get_or_from_slice_get}
use Rattle.ariadne_picture.specs.declared.label_info.LineLabel.{LineLabel}
use Rattle.ariadne_picture.specs.Lists.{joined}
use Rattle.ariadne_picture.specs.Pieces.{Piece, Section, Texts, row_pieces}
use Rattle.ariadne_picture.specs.Ranks.{Sheet, is_hidden_line, line_labels}
use Rattle.ariadne_picture.specs.Rows.{Row, label_rows, arrow, alternate, line_rows, lone_rows, source}
use Rattle.ariadne_layout.proofs.Listing.{joined-more}
use Rattle.ariadne_render.specs.Pages.{PenFields, DrawsRow, DrawsRows}
use Rattle.ariadne_render.proofs.Drawn.{draws_rows-append}

-- ---- the rows of one label

-- a label without a message has none
pub label-none : (compact : Bool) (l r : ℕ) (x : LineLabel) → x.info.has_message ≡ false → label_rows compact l (r, x) ≡ []
unfolding label_rows
label-none compact l r x e = rw e refl

-- in the compact form it has one
pub label-one : (l r : ℕ) (x : LineLabel) → x.info.has_message ≡ true → label_rows true l (r, x) ≡ arrow l r ∷ []
unfolding label_rows
label-one l r x e = rw e refl

-- else two
pub label-two : (l r : ℕ) (x : LineLabel) → x.info.has_message ≡ true → label_rows false l (r, x) ≡ alternate l r ∷ arrow l r ∷ []
unfolding label_rows
label-two l r x e = rw e refl

-- ---- the label of a rank

-- it is there
pub some-label : (xs : List LineLabel) (r : ℕ) → r < length xs → (x : LineLabel) × (slice_get xs r ≡ Some x)
some-label xs r h = some xs r h
  where
    some : (xs : List LineLabel) (r : ℕ) → r < length xs → (x : LineLabel) × (slice_get xs r ≡ Some x)
    some [] r h = absurd (omega arith)
    some (x ∷ xs) zero h = (x, refl)
    some (x ∷ xs) (suc r) h = some xs r (omega arith)

-- its rows stand behind those of the labels before it
pub labels-more : (t : Texts) (g : Section) (w l r : ℕ) (compact : Bool) (a b c : PenFields) (xs : List LineLabel) (x : LineLabel)
    → slice_get xs r ≡ Some x
    → DrawsRows a b (map (row_pieces t w g) (joined (label_rows compact l) (take r (enumerate_from 0 xs))))
    → DrawsRows b c (map (row_pieces t w g) (label_rows compact l (r, x)))
    → DrawsRows a c (map (row_pieces t w g) (joined (label_rows compact l) (take (r + 1) (enumerate_from 0 xs))))
labels-more t g w l r compact a b c xs x there d e =
    let f = label_rows compact l in
    let so_far = joined f (take r (enumerate_from 0 xs)) in
    let same : get_or xs r x ≡ x = get_or_from_slice_get xs r x x there in
    let more : so_far ++ f (r, get_or xs r x) ≡ joined f (take (r + 1) (enumerate_from 0 xs)) =
    joined-more f [] so_far xs r x (slice_get_within xs r x there) refl in
    let both : map (row_pieces t w g) so_far ++ map (row_pieces t w g) (f (r, x)) ≡ map (row_pieces t w g)
    (joined f (take (r + 1) (enumerate_from 0 xs))) =
    sym (map-append (row_pieces t w g) so_far (f (r, x)))
    ∙ ap (map (row_pieces t w g)) (ap (λ z. so_far ++ f (r, z)) (sym same) ∙ more) in
    subst (DrawsRows a c) both (draws_rows-append a b c (map (row_pieces t w g) so_far) (map (row_pieces t w g) (f (r, x))) d e)

-- ---- rows by name

-- rows that are known by their names
pub rows-of : (t : Texts) (g : Section) (w : ℕ) (a b : PenFields) (xs ys : List Row) → xs ≡ ys → DrawsRows a b (map (row_pieces t w g) xs)
    → DrawsRows a b (map (row_pieces t w g) ys)
rows-of t g w a b xs ys e d = subst (λ rows. DrawsRows a b (map (row_pieces t w g) rows)) e d

-- the page stays behind a row
pub row-page : (a b : PenFields) (x : List Piece) → DrawsRow a b x → b.page ≡ a.page
row-page a b x d = ap (λ (q : PenFields). q.page) d

-- a line that is shown has its source row and the rows of its labels
pub line-shown : (s : Sheet) (l : ℕ) → is_hidden_line s l ≡ false
    → source l ∷ (joined (label_rows s.switches.compact l) (enumerate_from 0 (line_labels s.labels l)) ++ lone_rows s l) ≡ line_rows s l
unfolding line_rows
line-shown s l e = sym (rw e refl)
