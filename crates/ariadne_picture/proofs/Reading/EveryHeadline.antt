-- What the headline says holds of the picture of every report.
use Rattle.std.proofs.Common.{◌≡◌, List, ℕ}
use Rattle.ariadne_picture.specs.declared.label_info.LabelInfo.{LabelInfo}
use Rattle.ariadne_picture.specs.Report.{ReportFields, World, HaveOneSource, AreForward}
use Rattle.ariadne_picture.specs.Accept.{AreAccepted}
use Rattle.ariadne_picture.specs.Canvas.{canvas}
use Rattle.ariadne_picture.specs.Print.{printed}
use Rattle.ariadne_picture.specs.Headline.{Headline}
use Rattle.ariadne_picture.proofs.OneReading.ReadingsAgree.{every-agree}
use Rattle.ariadne_picture.proofs.Reading.EveryReport.{every-traced}
use Rattle.ariadne_picture.proofs.ReadingBack.ReportsRead.{every-read, every-read-by-gutters}
use Rattle.ariadne_picture.proofs.Sent.CellColumns.{columns-of-texts}
use Rattle.ariadne_picture.proofs.Sent.LinesSent.{rows-are-lines}
use Rattle.ariadne_picture.proofs.Variants.CharLabels.{bytes-draw}
use Rattle.ariadne_picture.proofs.Variants.ColorsMoveNothing.{colors-move-nothing}

module _ {S Id : Type 0} (w : World S Id) (r : ReportFields S) (infos : List LabelInfo) (accepted : AreAccepted w r infos) where
  -- the picture can be read, and neither colours nor what offsets count move anything
  pub every-headline : HaveOneSource w → AreForward w r → (bytes : List ℕ) → bytes ≡ printed (canvas w r infos)
      → Headline w r infos bytes
  every-headline law forward bytes drawn = record {
    they_are_exactly_the_printed_canvas = drawn;
    each_message_is_traced = every-traced w r infos accepted forward law;
    in_one_way = every-agree w r infos accepted law forward;
    and_can_be_read_back = every-read w r infos accepted law forward;
    by_their_gutters_also_where_lines_are_cut = every-read-by-gutters w r infos accepted law forward;
    each_cell_takes_the_columns_of_its_text = columns-of-texts w r infos;
    its_rows_are_the_lines_that_are_sent = rows-are-lines w r infos;
    colors_move_nothing = colors-move-nothing w r infos;
    bytes_draw_as_characters = bytes-draw w r infos accepted law;
  }
