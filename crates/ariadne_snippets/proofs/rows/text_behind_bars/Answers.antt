use Rattle.std.proofs.Common.{◌∙◌, ◌==◌, ◌||◌, ap}
use Rattle.std.specs.List.{prefix_len}
use Rattle.ariadne_snippets.specs.Rows.{is_gap}
use Rattle.ariadne_snippets.proofs.Endings.{end_of_rest, in_by_end, in_by_trim, in_same}
use Rattle.ariadne_snippets.proofs.Texts.{of_bars_small, run_boundary}
use Rattle.ariadne_snippets.proofs.rows.text_behind_bars.Goals as goal

-- the row may be cut behind bars
pub range-requires-clause-end_boundary : goal.range-requires-clause-end_boundary
range-requires-clause-end_boundary c =
    run_boundary (λ c. is_gap c || c == 124) of_bars_small c.args.row.now c.bars_length-length.result
    (c.bars_length-length.ensures ∙ ap (prefix_len (λ c. is_gap c || c == 124)) c.as_bytes.ensures.value) c.utf8.row

pub range_from-requires : goal.range_from-requires
range_from-requires c =
    λ some.
    run_boundary (λ c. is_gap c || c == 124) of_bars_small c.args.row.now c.bars_length-length.result
    (c.bars_length-length.ensures ∙ ap (prefix_len (λ c. is_gap c || c == 124)) c.as_bytes.ensures.value) c.utf8.row

-- the text is what is left of it
pub returns : goal.returns
returns c =
    in_by_trim c.trim_end.result.now c.range_from.result.now c.args.row.now c.trim_end.ensures.value
    (in_same c.range_from.result.now _ c.args.row.now c.range_from.ensures.value
    (in_by_end _ c.args.row.now (end_of_rest c.bars_length-length.result c.args.row.now)))
