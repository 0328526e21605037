-- The clauses of the tracing promise, for every report over sources of which equal ids name one.
use Rattle.std.proofs.Common.{◌≡◌, ◌≤◌, true, List, refl}
use Rattle.std.specs.List.{AllByRecursion}
use Rattle.std.proofs.lemmas.List.Elements.{recursion_from_All}
use Rattle.ariadne_picture.specs.LoneLines.{has_lone_underlines}
use Rattle.ariadne_picture.proofs.Reading.LoneMarks.{lone-underlines}
use Rattle.ariadne_picture.specs.OtherRows.{has_other_rows}
use Rattle.ariadne_picture.proofs.Reading.OtherRows.{other-rows}
use Rattle.ariadne_picture.specs.TextColors.{has_text_colors}
use Rattle.ariadne_picture.proofs.Reading.TextColors.{text-colors}
use Rattle.ariadne_picture.specs.declared.label_info.LabelInfo.{LabelInfo}
use Rattle.ariadne_picture.specs.Report.{ReportFields, World}
use Rattle.ariadne_picture.specs.Accept.{AreAccepted}
use Rattle.ariadne_picture.specs.Bars.{EndsNoEarlier}
use Rattle.ariadne_picture.specs.Headline.{IsTraced}
use Rattle.ariadne_picture.specs.Canvas.{canvas, color_of, palette_of, sections, texts_of}
use Rattle.ariadne_picture.specs.Placing.InlineTraces.{has_inline_traces}
use Rattle.ariadne_picture.specs.Placing.GutterEnds.{has_ends_of_gutter_traces}
use Rattle.ariadne_picture.specs.Placing.GutterBars.{has_gutter_bars}
use Rattle.ariadne_picture.proofs.Labels.Accepted.{drawn-rise}
use Rattle.ariadne_picture.proofs.Labels.DrawnLabels.{drawn-numbers, sections-placed}
use Rattle.ariadne_picture.proofs.Reading.PlaceCounts.{ArePlaced}
use Rattle.ariadne_picture.proofs.Reading.DrawnReports.{AreNumbered, picture_of, of-canvas, canvas-placed, canvas-messages, canvas-aligned}
use Rattle.ariadne_picture.proofs.Reading.GutterFree.{gutter-bars}
use Rattle.ariadne_picture.proofs.Reading.InlineTraces.{inline-traces}
use Rattle.ariadne_picture.proofs.Reading.EndTraces.{end-traces}
use Rattle.ariadne_picture.proofs.Reading.OtherStrokes.{no-other-strokes}
use Rattle.ariadne_picture.proofs.Reading.OtherGutterStrokes.{no-other-gutter-strokes}
use Rattle.ariadne_picture.proofs.Reading.ColoredLabels.{label-colors}
use Rattle.ariadne_picture.proofs.Reading.WholeBlocks.{whole-blocks}
use Rattle.ariadne_picture.specs.Causes.{has_no_other_strokes}
use Rattle.ariadne_picture.specs.GutterCauses.{has_no_other_gutter_strokes}
use Rattle.ariadne_picture.specs.LabelColors.{label_color, has_label_colors}
use Rattle.ariadne_picture.proofs.Reading.Pictures.{Picture}
use Rattle.ariadne_picture.proofs.Rows.RowPlacing.{row_placing}

module _ {S Id : Type 0} (w : World S Id) (r : ReportFields S) (infos : List LabelInfo) (accepted : AreAccepted w r infos)
    (forward : AllByRecursion (λ label. w.start_of label.span ≤ w.end_of label.span) r.labels) where
  -- acceptance orders the ends of a label, counts the labels and places them
  pub numbered : AreNumbered infos
  numbered = record {
    rises = recursion_from_All EndsNoEarlier infos (drawn-rise w r infos accepted);
    numbers = drawn-numbers w r infos accepted;
  }

  -- the report's picture
  abbrev picture : Picture
  picture = picture_of w r infos numbered

  module _ (law : (p q : Id) → w.is_same p q ≡ true → w.source_of p ≡ w.source_of q) where
    -- each is placed within the source of its group, as the law gives each group one source
    pub all-placed : ArePlaced picture
    all-placed g s = sections-placed w r law forward infos accepted g s

    -- its labels within a line are led to their characters, its gutter labels into and out of their columns, in which their
    -- bars stand
    pub every-inline : has_inline_traces (canvas w r infos) (sections w r infos) (row_placing (texts_of r) (sections w r infos)) ≡ true
    every-inline = of-canvas w r infos numbered has_inline_traces (inline-traces picture all-placed)

    pub every-end : has_ends_of_gutter_traces (canvas w r infos) (sections w r infos) (row_placing (texts_of r) (sections w r infos)) ≡ true
    every-end = of-canvas w r infos numbered has_ends_of_gutter_traces (end-traces picture all-placed)

    pub every-bar : has_gutter_bars (canvas w r infos) (sections w r infos) (row_placing (texts_of r) (sections w r infos)) ≡ true
    every-bar = of-canvas w r infos numbered has_gutter_bars (gutter-bars picture all-placed)

    -- their strokes have their colours
    pub every-color : has_label_colors (canvas w r infos) (sections w r infos) (row_placing (texts_of r) (sections w r infos)) (label_color r) ≡ true
    every-color =
        of-canvas w r infos numbered (λ rows groups p. has_label_colors rows groups p (label_color r)) (label-colors picture all-placed)

    -- lines without messages have their underlines
    pub every-lone : has_lone_underlines (canvas w r infos) (sections w r infos) (row_placing (texts_of r) (sections w r infos)) (label_color r) ≡ true
    every-lone =
        of-canvas w r infos numbered (λ rows groups p. has_lone_underlines rows groups p (label_color r)) (lone-underlines picture)

    -- the tracing promise
    pub every-traced : IsTraced (canvas w r infos) (sections w r infos) (texts_of r) (color_of (palette_of r))
    every-traced = record {
      placing = row_placing (texts_of r) (sections w r infos);
      reads = record {
        rows_belong_together = canvas-placed w r infos numbered;
        blocks_are_whole = whole-blocks picture;
        each_message_has_one_row_of_its_own = canvas-messages w r infos numbered;
        strokes_lead_from_it_to_the_attach_character = every-inline;
        or_to_both_ends_of_the_gutter_column = every-end;
        and_along_the_gutter_column = every-bar;
        in_the_columns_where_the_source_row_shows_them = canvas-aligned w r infos numbered;
        and_no_stroke_stands_elsewhere = of-canvas w r infos numbered has_no_other_strokes (no-other-strokes picture);
        nor_in_the_gutter = of-canvas w r infos numbered has_no_other_gutter_strokes (no-other-gutter-strokes picture);
      };
      strokes_have_the_colors_of_their_labels = every-color;
      lines_without_messages_are_underlined = every-lone;
      characters_and_underlines_have_theirs =
          of-canvas w r infos numbered (λ rows groups p. has_text_colors rows groups p (color_of (palette_of r))) (text-colors picture);
      other_rows_show_what_is_theirs =
          of-canvas w r infos numbered (λ rows groups p. has_other_rows rows groups p (texts_of r)) (other-rows picture refl);
    }
