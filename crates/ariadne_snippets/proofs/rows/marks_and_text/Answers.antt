use Rattle.std.proofs.Common.{◌∙◌, ◌==◌, ◌||◌, ap}
use Rattle.ariadne_snippets.specs.Rows.{is_of_marks, marks_length}
use Rattle.ariadne_snippets.proofs.Endings.{end_of_rest, in_by_end, in_by_trim, in_same}
use Rattle.ariadne_snippets.proofs.Texts.{of_marks_small, run_boundary}
use Rattle.ariadne_snippets.proofs.rows.marks_and_text.Goals as goal

-- the row may be cut behind marks
pub range-requires-clause-end_boundary : goal.range-requires-clause-end_boundary
range-requires-clause-end_boundary c =
    run_boundary (λ c. is_of_marks c || c == 95) of_marks_small c.args.row.now c.marks_length-length.result
    (c.marks_length-length.ensures ∙ ap marks_length c.as_bytes.ensures.value) c.utf8.row

pub range_from-requires : goal.range_from-requires
range_from-requires c =
    λ some.
    run_boundary (λ c. is_of_marks c || c == 95) of_marks_small c.args.row.now c.marks_length-length.result
    (c.marks_length-length.ensures ∙ ap marks_length c.as_bytes.ensures.value) c.utf8.row

-- the text is what is left of it
pub returns-clause-text : goal.returns-clause-text
returns-clause-text c =
    in_by_trim c.trim_end.result.now c.range_from.result.now c.args.row.now c.trim_end.ensures.value
    (in_same c.range_from.result.now _ c.args.row.now c.range_from.ensures.value
    (in_by_end _ c.args.row.now (end_of_rest c.marks_length-length.result c.args.row.now)))
