-- It has all labels.
use Rattle.std.proofs.Common.{refl, ◌∙◌}
use Rattle.std.specs.List.{flat_map}
use Rattle.ariadne_commands.specs.Linted.{labels_of}
use Rattle.ariadne_commands.proofs.Reporting.{report_whole}
use Rattle.ariadne_commands.proofs.linting.offences_report.Goals as goal

pub returns : goal.returns
returns c =
    report_whole (flat_map labels_of c.args.checked.now) c.in-Some.piece c.finish.result c.in-Some.ensures
    (c.finish.ensures ∙ c.in_ok-with_labels_of_all.ensures ∙ (rw c.in_ok-builder.ensures refl))
