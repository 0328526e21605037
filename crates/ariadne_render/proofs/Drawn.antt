-- What a pen has written after one call and another: bytes, pieces and rows, one behind the other.
use Rattle.std.proofs.Common.{◌≡◌, ℕ, ◌+◌, List, [], ◌∷◌, ◌++◌, sym, ap, ◌∙◌, append_assoc, subst}
use Rattle.std.proofs.lemmas.List.{append-nil}
use Rattle.ariadne_base.specs.Locations.{upto}
use Rattle.ariadne_color.specs.Colors.{painted}
use Rattle.ariadne_picture.specs.Canvas.{color_of}
use Rattle.ariadne_picture.specs.Lists.{joined}
use Rattle.ariadne_picture.specs.Pieces.{Piece, blank_piece, plain_text}
use Rattle.ariadne_picture.specs.Print.{pieces_bytes, rows_bytes}
use Rattle.ariadne_picture.proofs.Lists.Joined.{joined-upto_more}
use Rattle.ariadne_render.specs.Pages.{Adds, Draws, DrawsRow, DrawsRows, PageFields, PenFields}
use Rattle.ariadne_render.proofs.Bytes.{blank_one, pieces_bytes_none, pieces_bytes_one, pieces_bytes-append, plain_one, row_bytes-is}
use Rattle.ariadne_render.proofs.Bytes.{rows_bytes_none, rows_bytes_one, rows_bytes-append}

-- ---- bytes

-- nothing is written
pub adds_none : (a : PenFields) → Adds a a []
adds_none a = ap (λ bytes. record a { bytes = bytes }) (sym (append-nil a.bytes))

-- bytes behind bytes
pub adds-append : (a b c : PenFields) (xs ys : List ℕ) → Adds a b xs → Adds b c ys → Adds a c (xs ++ ys)
adds-append a b c xs ys first then =
    then ∙ ap (λ (p : PenFields). record p { bytes = p.bytes ++ ys }) first
    ∙ ap (λ bytes. record a { bytes = bytes }) (append_assoc a.bytes xs ys)

-- the same bytes in other words
pub adds_same : (a b : PenFields) (xs ys : List ℕ) → xs ≡ ys → Adds a b xs → Adds a b ys
adds_same a b xs ys e h = h ∙ ap (λ bytes. record a { bytes = a.bytes ++ bytes }) e

-- the page stays
pub page_kept : (a b : PenFields) (xs : List ℕ) → Adds a b xs → b.page ≡ a.page
page_kept a b xs h = ap (λ (p : PenFields). p.page) h

-- ---- pieces

-- no pieces are drawn
pub draws_none : (a : PenFields) → Draws a a []
draws_none a = adds_same a a [] (pieces_bytes a.page.palette []) (sym (pieces_bytes_none a.page.palette)) (adds_none a)

-- pieces behind pieces
pub draws-append : (a b c : PenFields) (xs ys : List Piece) → Draws a b xs → Draws b c ys → Draws a c (xs ++ ys)
draws-append a b c xs ys first then =
    let kept = page_kept a b (pieces_bytes a.page.palette xs) first in
    let later : Adds b c (pieces_bytes a.page.palette ys) = subst (λ (page : PageFields). Adds b c (pieces_bytes page.palette ys)) kept then in
    adds_same a c _ _ (sym (pieces_bytes-append a.page.palette xs ys))
    (adds-append a b c (pieces_bytes a.page.palette xs) (pieces_bytes a.page.palette ys) first later)

-- a single piece
pub draws_one : (a b : PenFields) (x : Piece) → Adds a b (painted (color_of a.page.palette x.paint) x.text) → Draws a b (x ∷ [])
draws_one a b x h = adds_same a b _ _ (sym (pieces_bytes_one a.page.palette x)) h

-- a text without colour
pub draws_plain : (a b : PenFields) (text : List ℕ) → Adds a b text → Draws a b (plain_text text ∷ [])
draws_plain a b text h = adds_same a b text _ (sym (plain_one a.page.palette text)) h

-- a blank
pub draws_blank : (a b : PenFields) → Adds a b (32 ∷ []) → Draws a b (blank_piece ∷ [])
draws_blank a b h = adds_same a b (32 ∷ []) _ (sym (blank_one a.page.palette)) h

-- of no place nothing is drawn
pub draws_places_none : (a : PenFields) (f : ℕ → List Piece) → Draws a a (joined f (upto 0))
unfolding joined
draws_places_none a f = draws_none a

-- behind the places below n stands place n
pub draws_places_more : (a b c : PenFields) (f : ℕ → List Piece) (n : ℕ) → Draws a b (joined f (upto n)) → Draws b c (f n)
    → Draws a c (joined f (upto (n + 1)))
draws_places_more a b c f n before here =
    subst (Draws a c) (sym (joined-upto_more f n)) (draws-append a b c (joined f (upto n)) (f n) before here)

-- ---- rows

-- a row is ended behind its pieces
pub draws_row_ended : (a b c : PenFields) (xs : List Piece) → Draws a b xs → Adds b c (10 ∷ []) → DrawsRow a c xs
draws_row_ended a b c xs pieces end =
    adds_same a c _ _ (sym (row_bytes-is a.page.palette xs)) (adds-append a b c (pieces_bytes a.page.palette xs) (10 ∷ []) pieces end)

-- no rows are drawn
pub draws_rows_none : (a : PenFields) → DrawsRows a a []
draws_rows_none a = adds_same a a [] _ (sym (rows_bytes_none a.page.palette)) (adds_none a)

-- a single row
pub draws_rows_one : (a b : PenFields) (row : List Piece) → DrawsRow a b row → DrawsRows a b (row ∷ [])
draws_rows_one a b row h = adds_same a b _ _ (sym (rows_bytes_one a.page.palette row)) h

-- rows behind rows
pub draws_rows-append : (a b c : PenFields) (xs ys : List (List Piece)) → DrawsRows a b xs → DrawsRows b c ys → DrawsRows a c (xs ++ ys)
draws_rows-append a b c xs ys first then =
    let kept = page_kept a b (rows_bytes a.page.palette xs) first in
    let later : Adds b c (rows_bytes a.page.palette ys) = subst (λ (page : PageFields). Adds b c (rows_bytes page.palette ys)) kept then in
    adds_same a c _ _ (sym (rows_bytes-append a.page.palette xs ys))
    (adds-append a b c (rows_bytes a.page.palette xs) (rows_bytes a.page.palette ys) first later)

-- the page stays
pub rows_page : (a b : PenFields) (rows : List (List Piece)) → DrawsRows a b rows → b.page ≡ a.page
rows_page a b rows h = page_kept a b (rows_bytes a.page.palette rows) h

-- a row behind rows
pub draws_rows_more : (a b c : PenFields) (rows : List (List Piece)) (row : List Piece) → DrawsRows a b rows → DrawsRow b c row
    → DrawsRows a c (rows ++ row ∷ [])
draws_rows_more a b c rows row before here = draws_rows-append a b c rows (row ∷ []) before (draws_rows_one b c row here)
