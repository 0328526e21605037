use Rattle.std.proofs.Common.{◌≡◌, ◌-◌, string_bytes}
use Rattle.ariadne_show.specs.Quoted.{quoted_lines}
use Rattle.ariadne_show.proofs.quoted.quoted_text.Given as goal

-- the lines that are passed
abbrev pub invariant-loop-above : goal.invariant-loop-above
invariant-loop-above l = string_bytes l.text ≡ quoted_lines l.path l.quoted l.fn.lines.above (l.above - l.fn.lines.above)
