-- The page that the picture of a report is drawn on, and the rows of the picture.
use Rattle.std.specs.Prelude.{ℕ, ◌≡◌, List, [], ◌∷◌, if◌then◌else◌, length, map}
use Rattle.std.specs.List.{enumerate_from}
use Rattle.ariadne_picture.specs.declared.label_info.LabelInfo.{LabelInfo}
use Rattle.ariadne_picture.specs.Canvas.{Palette, cell_of, header_pieces, number_width, palette_of, section_of, texts_of}
use Rattle.ariadne_picture.specs.Lists.{joined}
use Rattle.ariadne_picture.specs.Pieces.{Piece, section_rows}
use Rattle.ariadne_picture.specs.Print.{printed}
use Rattle.ariadne_picture.specs.Report.{ReportFields, World, switches_of}
use Rattle.ariadne_render.specs.Pages.{PageFields}
use Rattle.ariadne_render.specs.declared.writer.Writer.{Writer}

-- the colours that are shown: with colours off those of the labels aren't read
abbrev pub shown_palette : Palette → Palette
shown_palette p = record {
  is_on = p.is_on;
  kind = p.kind;
  labels = if p.is_on then p.labels else [];
}

-- it has the report's colours and switches, and room for the line numbers of these groups
abbrev pub page_of : {S Id : Type 0} → World S Id → ReportFields S → List (List LabelInfo) → PageFields
page_of w r groups = record {
  palette = shown_palette (palette_of r);
  switches = switches_of r.config;
  number_width = number_width w r groups;
}

-- pen and gutter are of one page, which has the report's switches
pub record IsForReport {S : Type 0} (r : ReportFields S) (w : Writer) : Type 0 where
  pub one_page : w.gutter.page ≡ w.pen.page
  pub switches : w.pen.page.switches ≡ switches_of r.config

module _ {S Id : Type 0} (w : World S Id) (r : ReportFields S) where
  -- the rows of these groups, where line numbers take so many columns
  abbrev pub groups_rows : ℕ → List (List LabelInfo) → List (List Piece)
  groups_rows width gs =
      joined (λ e. section_rows (texts_of r) width (section_of w r (length gs) e)) (enumerate_from 0 gs)

  -- the rows of a picture whose groups these are
  abbrev pub picture_rows : List (List LabelInfo) → List (List Piece)
  picture_rows gs = header_pieces (texts_of r) ∷ groups_rows (number_width w r gs) gs

  -- what is printed of it
  abbrev pub groups_text : List (List LabelInfo) → List ℕ
  groups_text gs = printed (map (map (cell_of (palette_of r))) (picture_rows gs))
