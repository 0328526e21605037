use Rattle.std.specs.Prelude.{option_map}
use Rattle.ariadne_blocks.specs.Files.{file_of}
use Rattle.ariadne_blocks.proofs.Viewed.{row_with_events}
use Rattle.ariadne_blocks.proofs.block.Block.take_other.Goals as goal

-- the line is the row that it is as it stands
pub returns-clause-row : goal.returns-clause-row
returns-clause-row c =
    λ yes.
    row_with_events (option_map file_of c.args.file) c.args.line c.args.self.now c.take_whole.new.self _
    (c.in_ok-is_row.ensures.row yes)
