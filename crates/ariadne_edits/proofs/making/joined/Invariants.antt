use Rattle.std.proofs.Common.{◌≡◌, ◌≤◌, ◌++◌, drop, length}
use Rattle.std.specs.Prelude.{string_bytes}
use Rattle.std.specs.Str.{IsCharBoundary}
use Rattle.ariadne_edits.specs.Changes.{edited_from, edited_text, Fit}
use Rattle.ariadne_edits.proofs.making.joined.Given as goal

abbrev pub invariant-loop-change : goal.invariant-loop-change
invariant-loop-change l =
    (l.at ≤ length l.text) × IsCharBoundary l.text l.at
    × Fit l.text l.at (drop l.change-index l.changes)
    × (string_bytes l.out ++ edited_from l.text l.at (drop l.change-index l.changes) ≡ edited_text l.text l.changes)
