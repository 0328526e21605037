-- The bytes of the header of a picture and of the rows round the lines of a group: text after text.
use Rattle.std.proofs.Common.{◌≡◌, ℕ, ◌+◌, Bool, true, if◌then◌else◌, List, [], ◌∷◌, ◌++◌, codes, unwrap_or, sym, ap, subst, ◌∙◌, arith}
use Rattle.std.proofs.Common.{append_assoc}
use Rattle.std.proofs.lemmas.List.{replicate-append-replicate}
use Rattle.ariadne_color.specs.Colors.{painted}
use Rattle.ariadne_color.specs.Escapes.{opened, closed}
use Rattle.ariadne_picture.specs.declared.switches.CharSet.{CharSet}
use Rattle.ariadne_picture.specs.declared.switches.Switches.{Switches}
use Rattle.ariadne_picture.specs.declared.cell.Glyph.{Glyph}
use Rattle.ariadne_picture.specs.declared.cell.Glyph.TheVariants.{Hbar, Vbar, Ltop, Rbot, Lbox, Rbox, Lcross}
use Rattle.ariadne_picture.specs.declared.cell.Paint.TheVariants.{Kind, Margin}
use Rattle.ariadne_picture.specs.Canvas.{Palette, color_of, header_pieces}
use Rattle.ariadne_picture.specs.Pieces.{Section, Texts, painted_text, plain_text, stroke, spaces, repeated, glyph_text}
use Rattle.ariadne_picture.specs.Pieces.{group_header_pieces, location_text, spacer_pieces, tail_pieces}
use Rattle.ariadne_picture.specs.Print.{pieces_bytes, row_bytes}
use Rattle.ariadne_render.specs.Pages.{Adds, Draws, DrawsRow, PageFields, PenFields}
use Rattle.ariadne_render.proofs.Bytes.{pieces_bytes_first, pieces_bytes_one, plain_first, painted_parts, row_bytes-is}
use Rattle.ariadne_render.proofs.Drawn.{adds_same, adds-append, draws-append, draws_one, draws_plain, draws_row_ended, page_kept}
use Rattle.ariadne_render.proofs.Copies.{repeated_more}

-- ---- the header

-- the word of the kind in its colour
pub draws_kind : (a b c d e f : PenFields) (code kind : List ℕ) → Adds a b (opened (color_of a.page.palette Kind)) → Adds b c code → Adds c d kind
    → Adds d e (codes ":") → Adds e f (closed (color_of e.page.palette Kind)) → Draws a f (painted_text Kind (code ++ kind ++ codes ":") ∷ [])
draws_kind a b c d e f code kind opening coded word colon closing =
    let text = code ++ kind ++ codes ":" in
    let inner : Adds b e text = adds-append b d e (code ++ kind) (codes ":") (adds-append b c d code kind coded word) colon in
    let before : Adds a e (opened (color_of a.page.palette Kind) ++ text) = adds-append a b e _ text opening inner in
    let behind : Adds e f (closed (color_of a.page.palette Kind)) =
    subst (λ (page : PageFields). Adds e f (closed (color_of page.palette Kind))) (page_kept a e _ before) closing in
    draws_one a f (painted_text Kind text)
    (adds_same a f _ _ (sym (painted_parts (color_of a.page.palette Kind) text)) (adds-append a e f _ _ before behind))

-- and the message
pub draws_header : (a b c d e : PenFields) (t : Texts) (kind_text message : List ℕ) → t.kind_text ≡ kind_text → unwrap_or t.message [] ≡ message
    → Draws a b (painted_text Kind kind_text ∷ []) → Adds b c (codes " ") → Adds c d message → Adds d e (10 ∷ []) → DrawsRow a e (header_pieces t)
unfolding header_pieces
draws_header a b c d e t kind_text message kind told word blank text end =
    let behind : Draws b d (plain_text (codes " " ++ message) ∷ []) = draws_plain b d (codes " " ++ message) (adds-append b c d (codes " ") message blank text) in
    let pieces : header_pieces t ≡ (painted_text Kind kind_text ∷ []) ++ plain_text (codes " " ++ message) ∷ [] =
    λ i. painted_text Kind (kind i) ∷ plain_text (codes " " ++ told i) ∷ [] in
    subst (DrawsRow a e) (sym pieces) (draws_row_ended a d e _ (draws-append a b d _ _ word behind) end)

-- ---- the rows round the lines of a group

-- a number of blanks, and two more
pub spaces_two : (n : ℕ) → spaces n ++ codes "  " ≡ spaces (n + 2)
unfolding spaces
spaces_two n = replicate-append-replicate n 2 32

-- the strokes round the name and the place of a source
pub group_header_row : (p : Palette) (g : Section) (w : ℕ) (switches : Switches) (first : Bool) (name place : List ℕ)
    → g.sheet.switches ≡ switches → g.is_first ≡ first → g.name ≡ name
    → location_text g.sheet.lines g.display_offset g.header_offset ≡ place
    → spaces (w + 2) ++ painted (color_of p Margin) (glyph_text switches.char_set (if first then Ltop else Lcross))
    ++ painted (color_of p Margin) (glyph_text switches.char_set Hbar) ++ painted (color_of p Margin) (glyph_text switches.char_set Lbox)
    ++ (codes " " ++ name ++ codes ":" ++ place ++ codes " ") ++ painted (color_of p Margin) (glyph_text switches.char_set Rbox) ++ 10 ∷ []
    ≡ row_bytes p (group_header_pieces g w)
unfolding group_header_pieces
group_header_row p g w switches first name place same is named at =
    let set = switches.char_set in
    let paint : Glyph → List ℕ = λ c. painted (color_of p Margin) (glyph_text set c) in
    let corner : Glyph = if first then Ltop else Lcross in
    let inner = codes " " ++ name ++ codes ":" ++ place ++ codes " " in
    let behind = plain_first p inner (stroke set Rbox Margin ∷ []) ∙ ap (λ t. inner ++ t) (pieces_bytes_one p (stroke set Rbox Margin)) in
    let pieces = plain_first p (spaces (w + 2)) _ ∙ ap (λ t. spaces (w + 2) ++ t) (pieces_bytes_first p (stroke set corner Margin) _
    ∙ ap (λ t. paint corner ++ t) (pieces_bytes_first p (stroke set Hbar Margin) _
    ∙ ap (λ t. paint Hbar ++ t) (pieces_bytes_first p (stroke set Lbox Margin) _
    ∙ ap (λ t. paint Lbox ++ t) behind))) in
    sym ((λ i. row_bytes p (plain_text (spaces (w + 2)) ∷ stroke (same i).char_set (if is i then Ltop else Lcross) Margin
    ∷ stroke (same i).char_set Hbar Margin ∷ stroke (same i).char_set Lbox Margin
    ∷ plain_text (codes " " ++ named i ++ codes ":" ++ at i ++ codes " ") ∷ stroke (same i).char_set Rbox Margin ∷ []))
    ∙ row_bytes-is p _ ∙ ap (λ b. b ++ 10 ∷ []) pieces
    ∙ search (append_assoc))

-- a bar behind blanks
pub spacer_row : (p : Palette) (set : CharSet) (w : ℕ) → spaces (w + 2) ++ painted (color_of p Margin) (glyph_text set Vbar) ++ 10 ∷ []
    ≡ row_bytes p (spacer_pieces set w)
unfolding spacer_pieces
spacer_row p set w =
    let bar = painted (color_of p Margin) (glyph_text set Vbar) in
    let pieces : pieces_bytes p (plain_text (spaces (w + 2)) ∷ stroke set Vbar Margin ∷ []) ≡ spaces (w + 2) ++ bar =
    plain_first p (spaces (w + 2)) _ ∙ ap (λ t. spaces (w + 2) ++ t) (pieces_bytes_one p (stroke set Vbar Margin)) in
    sym (row_bytes-is p _ ∙ ap (λ b. b ++ 10 ∷ []) pieces)

-- a text, and twice more
repeated_two : (n : ℕ) (text : List ℕ) → repeated (n + 2) text ≡ repeated n text ++ text ++ text
repeated_two n text =
    let e : n + 2 ≡ (n + 1) + 1 = omega arith in
    ap (λ k. repeated k text) e ∙ repeated_more (n + 1) text ∙ ap (λ t. t ++ text) (repeated_more n text)

-- below the last group a stroke to a corner
pub tail_row : (p : Palette) (set : CharSet) (w : ℕ) → opened (color_of p Margin) ++ repeated w (glyph_text set Hbar)
    ++ glyph_text set Hbar ++ glyph_text set Hbar ++ glyph_text set Rbot ++ closed (color_of p Margin) ++ 10 ∷ []
    ≡ row_bytes p (tail_pieces set w true)
unfolding tail_pieces
tail_row p set w =
    let bar = glyph_text set Hbar in
    let text = repeated (w + 2) bar ++ glyph_text set Rbot in
    let told : text ≡ repeated w bar ++ bar ++ bar ++ glyph_text set Rbot = ap (λ t. t ++ glyph_text set Rbot) (repeated_two w bar) in
    sym (row_bytes-is p _ ∙ ap (λ b. b ++ 10 ∷ []) (pieces_bytes_one p _ ∙ painted_parts (color_of p Margin) text)
    ∙ ap (λ t. (opened (color_of p Margin) ++ t ++ closed (color_of p Margin)) ++ 10 ∷ []) told ∙ search (append_assoc))
