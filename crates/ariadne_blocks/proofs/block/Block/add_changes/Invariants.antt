use Rattle.std.proofs.Common.{◌≡◌, take}
use Rattle.std.specs.Prelude.{option_map}
use Rattle.ariadne_blocks.specs.Blocks.{view_of, with_changes}
use Rattle.ariadne_blocks.specs.Files.{file_of}
use Rattle.ariadne_blocks.proofs.block.Block.add_changes.Given as goal

-- the changes that are passed were taken in, and the rows are as they were
abbrev pub invariant-loop-fix : goal.invariant-loop-fix
invariant-loop-fix l = record {
  view : view_of l.self ≡ with_changes (option_map file_of l.file) (take l.fix-index l.fixes) (view_of l.fn.self);
  rows : l.self.rows ≡ l.fn.self.rows;
}
