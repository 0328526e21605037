use Rattle.std.proofs.Common.{◌∙◌, ap, sym}
use Rattle.std.specs.Prelude.{option_map}
use Rattle.ariadne_parse.specs.FixRows.{fix_row_parsed}
use Rattle.ariadne_blocks.specs.Blocks.{for_programs, of_message}
use Rattle.ariadne_blocks.proofs.block.Block.take_row.Goals as goal

-- it is a further row of the message
pub returns-in-Some-clause-row : goal.returns-in-Some-clause-row
returns-in-Some-clause-row c = λ _. of_message (sym c.in-Some.ensures) c.in_ok-add_message_row.ensures

-- or a row for programs
pub returns-in-Some-2-clause-row : goal.returns-in-Some-2-clause-row
returns-in-Some-2-clause-row c =
    λ _. for_programs (sym c.in_ok-row.ensures ∙ ap (option_map fix_row_parsed) c.in-Some-2.is) c.in_ok-add_fix_row.ensures
