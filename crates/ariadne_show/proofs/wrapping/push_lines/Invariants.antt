use Rattle.std.proofs.Common.{◌≡◌, ◌++◌}
use Rattle.std.specs.Prelude.{string_bytes}
use Rattle.std.specs.Str.Iter.{split_steps}
use Rattle.std.specs.Str.Pattern.{FindsChar}
use Rattle.ariadne_show.specs.Wrapped.{lines_in, wrapped_lines}
use Rattle.ariadne_show.proofs.InRows.{lines_behind, AreLeft}
use Rattle.ariadne_show.proofs.wrapping.push_lines.Given as goal

-- the lines that are left stand behind the rows so far
abbrev pub invariant-loop-line : goal.invariant-loop-line
invariant-loop-line l =
    AreLeft (split_steps FindsChar (λ a b. b ≡ a)) (λ x. x.now) lines_behind l.line-iterator l.width
    (string_bytes l.rows) (string_bytes l.fn.rows ++ wrapped_lines l.width (lines_in l.text))
