-- Only the file at the path is held.
use Rattle.std.proofs.Common.{ap}
use Rattle.ariadne.specs.Files.{by_text}
use Rattle.ariadne_commands.proofs.Ending.{over_file}
use Rattle.ariadne_commands.proofs.drawing.draw_file.Goals as goal

pub returns : goal.returns
returns g c = over_file _ _ _ _ c.args.path _ _ (ap by_text c.new-cache.ensures) c.draw_over.ensures.others c.draw_over.ensures.left
