-- Nothing that is counted reads the width.
use Rattle.std.proofs.Common.{refl}
use Rattle.ariadne_picture.specs.Canvas.{group_id, group_source, groups, is_same_id, label_id, number_width, same_source}
use Rattle.ariadne_picture.specs.Margins.{columns_before_text, margin_columns, margin_len, most_before_text}
use Rattle.ariadne_picture.specs.Pieces.{column_size, gutter_len}
use Rattle.ariadne_picture.specs.Ranks.{gutter_labels, last_line, multi_line_labels}
use Rattle.ariadne_picture.proofs.laws.margins_have_no_width.Goals as goal

pub returns : goal.returns
unfolding margin_columns most_before_text columns_before_text margin_len column_size gutter_len gutter_labels multi_line_labels last_line number_width
    groups same_source is_same_id label_id group_source group_id
returns g c w r infos n = refl
