-- Colours move nothing, in cells and in bytes.
use Rattle.std.proofs.Common.{List, ap, ◌∙◌}
use Rattle.ariadne_picture.specs.declared.label_info.LabelInfo.{LabelInfo}
use Rattle.ariadne_picture.specs.Report.{ReportFields, World}
use Rattle.ariadne_picture.specs.Canvas.{canvas}
use Rattle.ariadne_picture.specs.Print.{printed}
use Rattle.ariadne_picture.specs.Variants.{ColorsMoveNothing}
use Rattle.ariadne_picture.proofs.Variants.Colors.{erased-canvas}
use Rattle.ariadne_picture.proofs.Variants.Escapes.{unescaped-printed}
use Rattle.ariadne_picture.proofs.Variants.PlainTexts.{no-cell-escapes}

-- no cell holds an escape, so those of the bytes are the colours', and what is left is the canvas without them
pub colors-move-nothing : {S Id : Type 0} (w : World S Id) (r : ReportFields S) (infos : List LabelInfo) → ColorsMoveNothing w r infos
colors-move-nothing w r infos = record {
  cells = erased-canvas w r infos;
  bytes = λ h. unescaped-printed (canvas w r infos) (no-cell-escapes w r infos h) ∙ ap printed (erased-canvas w r infos);
}
