use Rattle.std.proofs.Common.{◌∙◌, ap}
use Rattle.std.proofs.lemmas.Result.{on_ok_weaker}
use Rattle.ariadne_parse.specs.FixRows.{fix_row_parsed}
use Rattle.ariadne_blocks.specs.Blocks.{view_of, with_help_of_row, with_proposed}
use Rattle.ariadne_blocks.specs.FixChanges.{unescaped}
use Rattle.ariadne_blocks.specs.ProposedByRows.{edit_with}
use Rattle.ariadne_blocks.proofs.block.Block.add_fix_row.Goals as goal

-- the row's help is there, and then what it proposes
pub returns : goal.returns
returns c =
    let row = fix_row_parsed c.args.row.now in
    let view = view_of c.args.self.now in
    on_ok_weaker c.propose.result
    (λ proposed. proposed
    ∙ ap (λ parsed. with_proposed (edit_with row c.as_str-2.result.now) parsed) c.in_ok-add_help_of_row.ensures
    ∙ ap (λ text. with_proposed (edit_with row text) (with_help_of_row row c.as_str.result.now view))
    (c.as_str-2.ensures.value ∙ c.in_ok-text.ensures)
    ∙ ap (λ text. with_proposed (edit_with row (unescaped row.text)) (with_help_of_row row text view))
    (c.as_str.ensures.value ∙ c.in_ok-text.ensures))
    c.propose.ensures
