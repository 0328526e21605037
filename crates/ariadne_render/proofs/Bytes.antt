-- The bytes of pieces and of rows: one after another, of cells that are repeated,
-- of plain texts and of blanks.
use Rattle.std.proofs.Common.{◌≡◌, ℕ, zero, suc, ◌+◌, List, [], ◌∷◌, ◌++◌, replicate, map, Option, Some, None, refl, sym, ap, ◌∙◌, arith}
use Rattle.std.proofs.lemmas.List.{append-nil, map-append, replicate_more, replicate-append-replicate}
use Rattle.std.proofs.lemmas.Bool.{cond_both}
use Rattle.ariadne_color.specs.declared.color.Color.{Color}
use Rattle.ariadne_color.specs.Colors.{painted}
use Rattle.ariadne_color.specs.Escapes.{opened, closed}
use Rattle.ariadne_picture.specs.declared.switches.CharSet.{CharSet}
use Rattle.ariadne_picture.specs.declared.cell.Ink.{Ink}
use Rattle.ariadne_picture.specs.declared.cell.Paint.TheVariants.{Plain}
use Rattle.ariadne_picture.specs.Lists.{joined}
use Rattle.ariadne_picture.specs.Pieces.{Piece, blank_piece, glyph_text, ink_pieces, plain_text, repeated, spaces, stroke}
use Rattle.ariadne_picture.specs.Canvas.{Palette, color_of, paint_color, cell_of}
use Rattle.ariadne_picture.specs.Print.{cell_bytes, pieces_bytes, row_bytes, rows_bytes}
use Rattle.ariadne_picture.proofs.Lists.Joined.{joined-append, joined-one}
use Rattle.ariadne_render.proofs.Copies.{repeated_none, repeated_more}

-- ---- pieces

-- no pieces have no bytes
pub pieces_bytes_none : (p : Palette) → pieces_bytes p [] ≡ []
unfolding pieces_bytes joined
pieces_bytes_none p = refl

-- the bytes of the first piece stand in front
pub pieces_bytes_first : (p : Palette) (x : Piece) (xs : List Piece) → pieces_bytes p (x ∷ xs)
    ≡ painted (color_of p x.paint) x.text ++ pieces_bytes p xs
unfolding pieces_bytes joined cell_bytes
pieces_bytes_first p x xs = refl

-- a single piece is its text in its colour
pub pieces_bytes_one : (p : Palette) (x : Piece) → pieces_bytes p (x ∷ []) ≡ painted (color_of p x.paint) x.text
pieces_bytes_one p x = pieces_bytes_first p x [] ∙ ap (λ t. painted (color_of p x.paint) x.text ++ t) (pieces_bytes_none p) ∙ append-nil _

-- pieces behind pieces
pub pieces_bytes-append : (p : Palette) (xs ys : List Piece) → pieces_bytes p (xs ++ ys) ≡ pieces_bytes p xs ++ pieces_bytes p ys
unfolding pieces_bytes
pieces_bytes-append p xs ys =
    ap (joined cell_bytes) (map-append (cell_of p) xs ys) ∙ joined-append cell_bytes (map (cell_of p) xs) (map (cell_of p) ys)

-- ---- rows

-- a row is its pieces and a line feed
pub row_bytes-is : (p : Palette) (xs : List Piece) → row_bytes p xs ≡ pieces_bytes p xs ++ 10 ∷ []
unfolding row_bytes
row_bytes-is p xs = refl

-- no rows have no bytes
pub rows_bytes_none : (p : Palette) → rows_bytes p [] ≡ []
unfolding rows_bytes joined
rows_bytes_none p = refl

-- a single row
pub rows_bytes_one : (p : Palette) (row : List Piece) → rows_bytes p (row ∷ []) ≡ row_bytes p row
unfolding rows_bytes
rows_bytes_one p row = joined-one (row_bytes p) row

-- rows behind rows
pub rows_bytes-append : (p : Palette) (xs ys : List (List Piece)) → rows_bytes p (xs ++ ys) ≡ rows_bytes p xs ++ rows_bytes p ys
unfolding rows_bytes
rows_bytes-append p xs ys = joined-append (row_bytes p) xs ys

-- ---- texts in a colour

-- a painted text stands between what opens and what closes its colour
pub painted_parts : (c : Option Color) (text : List ℕ) → painted c text ≡ opened c ++ text ++ closed c
painted_parts None text = sym (append-nil text)
painted_parts (Some c) text = refl

-- ---- plain texts

-- a plain text has no colour
pub color_of_plain : (p : Palette) → color_of p Plain ≡ None
unfolding color_of paint_color
color_of_plain p = cond_both p.is_on None None (λ c. c ≡ None) (λ e. refl) (λ e. refl)

-- the bytes of a plain text are the text
pub plain_bytes : (p : Palette) (text : List ℕ) → painted (color_of p Plain) text ≡ text
plain_bytes p text = ap (λ c. painted c text) (color_of_plain p)

-- so are those of a piece without colour
pub plain_one : (p : Palette) (text : List ℕ) → pieces_bytes p (plain_text text ∷ []) ≡ text
plain_one p text = pieces_bytes_one p (plain_text text) ∙ plain_bytes p text

-- a text without colour in front of other pieces
pub plain_first : (p : Palette) (text : List ℕ) (xs : List Piece) → pieces_bytes p (plain_text text ∷ xs) ≡ text ++ pieces_bytes p xs
plain_first p text xs = pieces_bytes_first p (plain_text text) xs ∙ ap (λ t. t ++ pieces_bytes p xs) (plain_bytes p text)

-- the byte of a blank
pub blank_one : (p : Palette) → pieces_bytes p (blank_piece ∷ []) ≡ 32 ∷ []
blank_one p = pieces_bytes_one p blank_piece ∙ plain_bytes p (32 ∷ [])

-- a blank in front of other pieces
pub blank_first : (p : Palette) (xs : List Piece) → pieces_bytes p (blank_piece ∷ xs) ≡ (32 ∷ []) ++ pieces_bytes p xs
blank_first p xs = pieces_bytes_first p blank_piece xs ∙ ap (λ t. t ++ pieces_bytes p xs) (plain_bytes p (32 ∷ []))

-- ---- blanks

-- blanks and one more are one blank more
pub spaces_more : (n : ℕ) → spaces n ++ 32 ∷ [] ≡ spaces (n + 1)
unfolding spaces
spaces_more n = replicate_more n 32

-- blanks behind blanks
pub spaces-append : (m n : ℕ) → spaces m ++ spaces n ≡ spaces (m + n)
unfolding spaces
spaces-append m n = replicate-append-replicate m n 32

-- ---- the cells of one stroke

-- a piece that is repeated is its bytes, repeated
pub run_bytes : (p : Palette) (n : ℕ) (x : Piece) → pieces_bytes p (replicate n x) ≡ repeated n (painted (color_of p x.paint) x.text)
run_bytes p zero x = pieces_bytes_none p ∙ sym (repeated_none _)
run_bytes p (suc n) x =
    let text = painted (color_of p x.paint) x.text in
    let e : suc n ≡ n + 1 = omega arith in
    ap (λ k. pieces_bytes p (replicate k x)) e ∙ ap (pieces_bytes p) (sym (replicate_more n x)) ∙ pieces_bytes-append p (replicate n x) (x ∷ [])
    ∙ (λ i. run_bytes p n x i ++ pieces_bytes_one p x i) ∙ sym (repeated_more n text) ∙ ap (λ k. repeated k text) (sym e)

-- the cells of a place: the first, and a run of the rest
pub ink_bytes : (p : Palette) (set : CharSet) (a : Ink) (n : ℕ) → pieces_bytes p (ink_pieces set a (suc n))
    ≡ painted (color_of p a.first_paint) (glyph_text set a.first) ++ pieces_bytes p (replicate n (stroke set a.rest a.rest_paint))
unfolding ink_pieces
ink_bytes p set a n = pieces_bytes_first p (stroke set a.first a.first_paint) _
