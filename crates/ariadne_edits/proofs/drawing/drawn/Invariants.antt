use Rattle.std.proofs.Common.{◌≡◌, ◌++◌, drop}
use Rattle.std.specs.Prelude.{string_bytes}
use Rattle.ariadne_base.specs.Listing.{listed_lines}
use Rattle.ariadne_edits.specs.HelpTexts.{drawn_rows, drawn_text}
use Rattle.ariadne_edits.proofs.drawing.drawn.Given as goal

abbrev pub invariant-loop-row : goal.invariant-loop-row
invariant-loop-row l =
    string_bytes l.out ++ drawn_rows l.layout (listed_lines l.old) (listed_lines l.new) l.standing.is_first l.standing.is_apart (drop l.row-index l.rows)
    ≡ drawn_text l.layout (listed_lines l.old) (listed_lines l.new) l.rows
