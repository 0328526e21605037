use Rattle.std.proofs.Common.{◌≡◌, map, take}
use Rattle.ariadne_show.specs.OptionMeanings.{input_path, path_named}
use Rattle.ariadne_show.proofs.entries.inputs_named.Given as goal

-- the inputs are those of the names so far
abbrev pub invariant-loop-name : goal.invariant-loop-name
invariant-loop-name l = map input_path l.inputs.items ≡ map (λ name. path_named name.now) (take l.name-index l.names)
