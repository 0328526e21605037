-- What a run leaves, by how the report was written.
use Rattle.ariadne_commands.proofs.LintEnding.{ran_part}
use Rattle.ariadne_commands.proofs.linting.lint_files.Goals as goal

pub returns-in_err-write_report : goal.returns-in_err-write_report
returns-in_err-write_report g c =
    let wrote = c.in_err-write_report.ensures in
    ran_part _ _ _ _ _ _ _ c.in_err-write_report.field-0.0 _ c.deref.ensures.value c.in_ok-checked.ensures wrote.outcomes wrote.wrote
    c.from_residual-in_err-write_report.ensures.1
