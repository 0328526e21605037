use denote.Shadow.{shadow}
use denote.Text.{Utf8}
use Rattle.std.proofs.Common.{List, ℕ, ◌++◌, length}
use Rattle.std.specs.Prelude.{string_bytes}
use Rattle.ariadne_blocks.specs.Uncolored.{IsBare}
use Rattle.ariadne_blocks.proofs.colors.without_gcc_colors.Given as goal

-- what is written so far, with what the rest is without colours behind it; the rest is a text
abbrev pub invariant-loop-front : goal.invariant-loop-front
invariant-loop-front l = record {
  utf8 : shadow (Utf8 l.rest);
  bared : (more : List ℕ) → IsBare l.rest more → IsBare l.text (string_bytes l.bare ++ more);
}

abbrev pub decreases-loop-front : goal.decreases-loop-front
decreases-loop-front l = length l.rest
