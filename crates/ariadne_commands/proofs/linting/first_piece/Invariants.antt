-- the files so far have no labels
use Rattle.std.proofs.Common.{◌≡◌, drop}
use Rattle.std.specs.List.{flat_map}
use Rattle.ariadne_commands.specs.Linted.{labels_of}
use Rattle.ariadne_commands.proofs.linting.first_piece.Given as goal

abbrev pub invariant-loop-it : goal.invariant-loop-it
invariant-loop-it l = flat_map labels_of l.checked ≡ flat_map labels_of (drop l.it-index l.checked)
