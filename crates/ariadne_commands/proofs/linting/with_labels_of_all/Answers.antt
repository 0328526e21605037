-- At the end it has all labels.
use Rattle.std.proofs.Common.{◌≡◌, refl, ◌∙◌, ap, sym, arith, drop, []}
use Rattle.std.proofs.lemmas.List.{append-nil, drop_all}
use Rattle.std.specs.Prelude.{◌++◌}
use Rattle.std.specs.List.{flat_map}
use Rattle.ariadne_commands.specs.Linted.{labels_of}
use Rattle.ariadne_commands.proofs.linting.with_labels_of_all.Goals as goal

pub returns : goal.returns
returns c =
    let checked = c.args.checked.now in
    let last = drop_all c.loop-it.it-index checked (omega arith) in
    let rest : flat_map labels_of (drop c.loop-it.it-index checked) ≡ [] = ap (flat_map labels_of) last in
    let whole : c.loop-it.builder.labels ≡ c.args.builder.labels ++ flat_map labels_of checked =
    sym (append-nil c.loop-it.builder.labels) ∙ (rw rest at c.loop-it.invariant.labels) in
    c.loop-it.invariant.report ∙ (rw whole refl)
