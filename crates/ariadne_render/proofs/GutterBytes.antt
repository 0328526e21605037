-- The bytes of the columns of a gutter: of pieces one after another, of blanks, and of a column with a bar or without.
use Rattle.std.proofs.Common.{◌≡◌, ℕ, zero, suc, ◌+◌, ◌-◌, ◌*◌, ◌≤◌, List, [], ◌∷◌, ◌++◌, map, replicate, None, Some}
use Rattle.std.proofs.Common.{Option, drop, lit≤, subst, lit<, refl, sym, ap, ◌∙◌, arith, append_assoc}
use Rattle.std.specs.List.{range_with_len}
use Rattle.std.proofs.lemmas.List.{append-nil, replicate_more}
use Rattle.std.proofs.lemmas.Bool.{cond_both}
use Rattle.std.proofs.lemmas.Str.{encode_ascii}
use Rattle.std.proofs.Math.Utf8.{encode}
use Rattle.ariadne_color.specs.declared.color.Color.{Color}
use Rattle.ariadne_color.specs.Colors.{painted}
use Rattle.ariadne_picture.specs.declared.switches.CharSet.{CharSet}
use Rattle.ariadne_picture.specs.declared.switches.CharSet.TheVariants.{Unicode, Ascii}
use Rattle.ariadne_picture.specs.declared.switches.Switches.{Switches}
use Rattle.ariadne_picture.specs.declared.cell.Glyph.{Glyph}
use Rattle.ariadne_picture.specs.declared.cell.Glyph.TheVariants.{Blank, Vbar}
use Rattle.ariadne_picture.specs.declared.cell.Ink.{Ink}
use Rattle.ariadne_picture.specs.declared.cell.Paint.TheVariants.{Label}
use Rattle.ariadne_picture.specs.Canvas.{Palette, color_of, cell_of}
use Rattle.ariadne_picture.specs.Cells.{blanks, glyph_code}
use Rattle.ariadne_picture.specs.Lists.{joined}
use Rattle.ariadne_picture.specs.Pieces.{Piece, glyph_text, ink_pieces, stroke, spaces, column_size}
use Rattle.ariadne_picture.specs.Print.{cell_bytes, pieces_bytes}
use Rattle.ariadne_picture.proofs.Lists.Joined.{joined-joined, map-joined}
use Rattle.ariadne_render.specs.Pages.{PageFields}
use Rattle.ariadne_render.proofs.Bytes.{pieces_bytes_first, spaces-append}
use Rattle.ariadne_render.specs.Gutters.{column_bytes, bar_ink}
use Rattle.ariadne_render.proofs.Areas.{blank_text, spaces_bytes}
use Rattle.ariadne_render.proofs.GutterText.{IsHeaded}

-- ---- pieces

-- joined pieces
pub bytes-joined : {X : Type 0} (p : Palette) (f : X → List Piece) (xs : List X) → pieces_bytes p (joined f xs) ≡ joined (λ x. pieces_bytes p (f x)) xs
unfolding pieces_bytes
bytes-joined p f xs = ap (joined cell_bytes) (map-joined (cell_of p) f xs) ∙ joined-joined cell_bytes (λ x. map (cell_of p) (f x)) xs

-- ---- blanks

-- a loop's start: no blank has been written
pub blanks-none : (old : List ℕ) → old ≡ old ++ spaces 0
unfolding spaces
blanks-none old = sym (append-nil old)

-- a loop's step: one blank more
pub blanks-more : (old b : List ℕ) (n : ℕ) → b ≡ old ++ spaces n → b ++ 32 ∷ [] ≡ old ++ spaces (n + 1)
unfolding spaces
blanks-more old b n e = ap (λ t. t ++ 32 ∷ []) e ∙ append_assoc old (replicate n 32) (32 ∷ []) ∙ ap (λ t. old ++ t) (replicate_more n 32)

-- ---- the cells of a column

-- the first cell, and those behind it
pub ink-bytes : (p : Palette) (set : CharSet) (ink : Ink) (n : ℕ) → 1 ≤ n
    → pieces_bytes p (ink_pieces set ink n) ≡ painted (color_of p ink.first_paint) (glyph_text set ink.first)
    ++ pieces_bytes p (replicate (n - 1) (stroke set ink.rest ink.rest_paint))
unfolding ink_pieces
ink-bytes p set ink zero h = absurd (omega arith)
ink-bytes p set ink (suc n) h =
    let e : n ≡ suc n - 1 = omega arith in
    pieces_bytes_first p (stroke set ink.first ink.first_paint) (replicate n (stroke set ink.rest ink.rest_paint))
    ∙ ap (λ k. painted (color_of p ink.first_paint) (glyph_text set ink.first) ++ pieces_bytes p (replicate k (stroke set ink.rest ink.rest_paint))) e

-- alike cells
pub ink-alike : (set : CharSet) (ink : Ink) (n : ℕ) → ink.rest ≡ ink.first → ink.rest_paint ≡ ink.first_paint
    → ink_pieces set ink n ≡ replicate n (stroke set ink.first ink.first_paint)
unfolding ink_pieces
ink-alike set ink zero e f = refl
ink-alike set ink (suc n) e f = λ i. stroke set ink.first ink.first_paint ∷ replicate n (stroke set (e i) (f i))

-- a column has a cell or two
pub column-some : (s : Switches) → (1 ≤ column_size s) × (column_size s ≤ 2)
unfolding column_size
column-some s = cond_both s.compact 1 2 (λ n. (1 ≤ n) × (n ≤ 2)) (λ e. (lit≤ tt, lit≤ tt)) (λ e. (lit≤ tt, lit≤ tt))

-- a column of plain blanks
pub blank-column : (page : PageFields) → column_bytes page blanks ≡ spaces (column_size page.switches)
unfolding column_bytes
blank-column page =
    let set = page.switches.char_set in
    let n = column_size page.switches in
    ap (pieces_bytes page.palette) (ink-alike set blanks n refl refl) ∙ spaces_bytes page.palette set n

-- a column with a bar
pub bar-column : (page : PageFields) (glyph : Glyph) (position : ℕ) → column_bytes page (bar_ink glyph (Some position))
    ≡ painted (color_of page.palette (Label position)) (glyph_text page.switches.char_set glyph) ++ spaces (column_size page.switches - 1)
unfolding column_bytes bar_ink
bar-column page glyph position =
    let set = page.switches.char_set in
    let n = column_size page.switches in
    ink-bytes page.palette set (bar_ink glyph (Some position)) n (column-some page.switches).0
    ∙ ap (λ t. painted (color_of page.palette (Label position)) (glyph_text set glyph) ++ t) (spaces_bytes page.palette set (n - 1))

-- ---- what a column begins with

-- a painted text begins with an escape, or as the text does
headed-painted : (c : Option Color) (text : List ℕ) → IsHeaded text → IsHeaded (painted c text)
headed-painted None text h = h
headed-painted (Some c) text h = record { first = 27; rest = drop 1 (painted (Some c) text); is = refl; lead = λ low. absurd (omega arith) }

-- a bar begins with the first byte of its character
headed-bar : (set : CharSet) → IsHeaded (glyph_text set Vbar)
unfolding glyph_text glyph_code encode
headed-bar Unicode = record { first = 226; rest = 148 ∷ 130 ∷ []; is = refl; lead = λ low. lit≤ tt }
headed-bar Ascii = record { first = 124; rest = []; is = encode_ascii 124 (lit< tt); lead = λ low. absurd (omega arith) }

-- and a blank is one byte
headed-blank : (set : CharSet) → IsHeaded (glyph_text set Blank)
headed-blank set = record { first = 32; rest = []; is = blank_text set; lead = λ low. absurd (omega arith) }

-- what begins so does with anything behind it
headed-append : (xs ys : List ℕ) → IsHeaded xs → IsHeaded (xs ++ ys)
headed-append xs ys h = record { first = h.first; rest = h.rest ++ ys; is = ap (λ t. t ++ ys) h.is; lead = h.lead }

-- so a column does, by its first cell
headed-ink : (page : PageFields) (ink : Ink) → IsHeaded (glyph_text page.switches.char_set ink.first) → IsHeaded (column_bytes page ink)
unfolding column_bytes
headed-ink page ink h =
    let set = page.switches.char_set in
    let n = column_size page.switches in
    subst IsHeaded (sym (ink-bytes page.palette set ink n (column-some page.switches).0))
    (headed-append _ _ (headed-painted (color_of page.palette ink.first_paint) (glyph_text set ink.first) h))

-- with a bar or without
pub headed-column : (page : PageFields) (bar : Option ℕ) → IsHeaded (column_bytes page (bar_ink Vbar bar))
unfolding bar_ink
headed-column page None = headed-ink page blanks (headed-blank page.switches.char_set)
headed-column page (Some position) = headed-ink page (bar_ink Vbar (Some position)) (headed-bar page.switches.char_set)

-- a column without bar is blank
pub no-bar : (glyph : Glyph) → blanks ≡ bar_ink glyph None
unfolding bar_ink
no-bar glyph = refl

-- blank columns are blanks
pub blank-columns : (page : PageFields) (a n : ℕ)
    → joined (λ (i : ℕ). column_bytes page blanks) (range_with_len a n) ≡ spaces (n * column_size page.switches)
unfolding joined spaces
blank-columns page a zero = let z : 0 * column_size page.switches ≡ 0 = omega arith in sym (ap spaces z)
blank-columns page a (suc n) =
    let size = column_size page.switches in
    let more : size + n * size ≡ suc n * size = omega arith in
    (λ j. blank-column page j ++ blank-columns page (a + 1) n j) ∙ spaces-append size (n * size) ∙ ap spaces more
