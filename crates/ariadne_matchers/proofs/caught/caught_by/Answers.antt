use Rattle.ariadne_matchers.proofs.Parts.{part_is}
use Rattle.ariadne_matchers.proofs.caught.caught_by.Goals as goal

-- each group caught what stands at its span
pub returns : goal.returns
returns c =
    let place = c.piece_of-place.ensures in
    let line = part_is _ _ _ _ _ _ _ c.piece_of-2.ensures c.part.ensures place c.or.ensures in
    let column = part_is _ _ _ _ _ _ _ c.piece_of-3.ensures c.part-2.ensures place c.or-2.ensures in
    let end_line = part_is _ _ _ _ _ _ _ c.piece_of-4.ensures c.part-3.ensures place c.or-3.ensures in
    let end_column = part_is _ _ _ _ _ _ _ c.piece_of-5.ensures c.part-4.ensures place c.or-4.ensures in
    λ i. record {
      row = c.args.line.now;
      file = c.piece_of.ensures i;
      line = line i;
      column = column i;
      end_line = end_line i;
      end_column = end_column i;
      severity = c.piece_of-6.ensures i;
      code = c.piece_of-7.ensures i;
      message = c.piece_of-8.ensures i;
      quoted = c.piece_of-9.ensures i;
      marks = c.piece_of-10.ensures i;
    }
