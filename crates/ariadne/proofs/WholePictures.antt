-- The groups of a picture as they are drawn one after another, and the bytes of the whole picture.
use Rattle.std.proofs.Common.{◌≡◌, ℕ, ◌+◌, Bool, true, false, List, [], ◌∷◌, ◌++◌, Option, Some, get_or, map, take}
use Rattle.std.proofs.Common.{refl, sym, ap, ◌∙◌, subst}
use Rattle.std.specs.Prelude.{if◌then◌else◌, slice_get}
use Rattle.std.specs.List.{enumerate_from}
use Rattle.std.proofs.lemmas.Option.{get_or_from_slice_get, slice_get_within}
use Rattle.ariadne_color.specs.declared.color.Color.{Color}
use Rattle.ariadne_picture.specs.Print.{line_bytes, pieces_bytes, printed, row_bytes, rows_bytes}
use Rattle.ariadne_picture.specs.declared.label_info.LabelInfo.{LabelInfo}
use Rattle.ariadne_picture.specs.declared.cell.Paint.{Paint}
use Rattle.ariadne_picture.specs.Canvas.{Palette, canvas, cell_of, color_of, groups, header_pieces, number_width, outline, palette_of}
use Rattle.ariadne_picture.specs.Canvas.{same_source, texts_of}
use Rattle.ariadne_picture.specs.Groups.{groups_of, ordered}
use Rattle.ariadne_picture.specs.Lists.{joined}
use Rattle.ariadne_picture.specs.Pieces.{Piece}
use Rattle.ariadne_picture.specs.Report.{ReportFields, World}
use Rattle.ariadne_picture.proofs.Lists.Joined.{joined-map}
use Rattle.ariadne_picture.proofs.Parts.{outline-is}
use Rattle.ariadne_layout.proofs.Listing.{joined-more}
use Rattle.ariadne_render.specs.Pages.{DrawsRow, DrawsRows, PageFields, PenFields}
use Rattle.ariadne_render.proofs.Drawn.{draws_rows-append, draws_rows_one}
use Rattle.ariadne.specs.WholePages.{groups_rows, picture_rows, shown_palette}

-- ---- one group after another

-- the rows of number k of some items stand behind those of the items before it
pub rows_more : {X : Type 0} (f : ℕ × X → List (List Piece)) (k : ℕ) (a b c : PenFields) (xs : List X) (x : X) → slice_get xs k ≡ Some x
    → DrawsRows a b (joined f (take k (enumerate_from 0 xs))) → DrawsRows b c (f (k, x))
    → DrawsRows a c (joined f (take (k + 1) (enumerate_from 0 xs)))
rows_more f k a b c xs x there so_far next =
    let before = joined f (take k (enumerate_from 0 xs)) in
    let same : get_or xs k x ≡ x = get_or_from_slice_get xs k x x there in
    let more : before ++ f (k, get_or xs k x) ≡ joined f (take (k + 1) (enumerate_from 0 xs)) =
    joined-more f [] before xs k x (slice_get_within xs k x there) refl in
    subst (DrawsRows a c) (ap (λ y. before ++ f (k, y)) (sym same) ∙ more) (draws_rows-append a b c before (f (k, x)) so_far next)

-- ---- the whole picture

-- the bytes of some rows are those that are printed of their cells
bytes_are : (p : Palette) (rows : List (List Piece)) → rows_bytes p rows ≡ printed (map (map (cell_of p)) rows)
unfolding rows_bytes row_bytes line_bytes printed pieces_bytes
bytes_are p rows = sym (joined-map line_bytes (map (cell_of p)) rows)

-- with colours off the colours of labels count for nothing
shown_colors : (on : Bool) (kind : Color) (labels : List (Option Color)) (paint : Paint)
    → color_of (record { is_on = on; kind = kind; labels = if on then labels else [] }) paint
    ≡ color_of (record { is_on = on; kind = kind; labels = labels }) paint
unfolding color_of
shown_colors true kind labels paint = refl
shown_colors false kind labels paint = refl

-- so rows are printed alike without them
shown_bytes : (p : Palette) (rows : List (List Piece)) → rows_bytes (shown_palette p) rows ≡ printed (map (map (cell_of p)) rows)
shown_bytes p rows =
    bytes_are (shown_palette p) rows
    ∙ (λ i. printed (map (map (λ (piece : Piece).
    record { text = piece.text; color = shown_colors p.is_on p.kind p.labels piece.paint i; columns = piece.columns })) rows))

module _ {S Id : Type 0} (w : World S Id) (r : ReportFields S) where
  -- the rows of the picture of these labels are those of their groups
  outline_is : (infos : List LabelInfo) (gs : List (List LabelInfo)) → gs ≡ groups_of (same_source w r) (ordered infos)
      → outline w r infos ≡ picture_rows w r gs
  unfolding groups
  outline_is infos gs same = outline-is w r infos ∙ ap (picture_rows w r) (sym same)

  -- so they are printed as the canvas of the labels is
  pub canvas_is : (infos : List LabelInfo) (gs : List (List LabelInfo)) → gs ≡ groups_of (same_source w r) (ordered infos)
      → printed (map (map (cell_of (palette_of r))) (picture_rows w r gs)) ≡ printed (canvas w r infos)
  unfolding canvas
  canvas_is infos gs same = ap (λ rows. printed (map (map (cell_of (palette_of r))) rows)) (sym (outline_is infos gs same))

  -- the header and the groups below it are these rows
  pub picture_drawn : (gs : List (List LabelInfo)) (width : ℕ) (start behind end : PenFields) → width ≡ number_width w r gs
      → DrawsRow start behind (header_pieces (texts_of r)) → DrawsRows behind end (groups_rows w r width gs)
      → DrawsRows start end (picture_rows w r gs)
  picture_drawn gs width start behind end wide header below =
      let first = header_pieces (texts_of r) in
      subst (λ n. DrawsRows start end (first ∷ groups_rows w r n gs)) wide
      (draws_rows-append start behind end (first ∷ []) (groups_rows w r width gs) (draws_rows_one start behind first header) below)

-- a pen that wrote rows from the start of its page on has written what is printed of their cells
pub rows_written : (p : Palette) (rows : List (List Piece)) (page : PageFields) (start end : PenFields)
    → start ≡ record { page = page; bytes = [] } → page.palette ≡ shown_palette p → DrawsRows start end rows
    → end.bytes ≡ printed (map (map (cell_of p)) rows)
rows_written p rows page start end fresh palette all =
    ap (λ (q : PenFields). q.bytes) all ∙ ap (λ (q : PenFields). q.bytes ++ rows_bytes q.page.palette rows) fresh
    ∙ ap (λ p. rows_bytes p rows) palette ∙ shown_bytes p rows
