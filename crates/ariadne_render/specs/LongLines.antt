-- What is remembered of a line.
use Rattle.std.specs.Prelude.{ℕ, ◌≡◌, List, Option, IfSome}
use Rattle.ariadne_base.specs.Locations.{line_text}
use Rattle.ariadne_layout.specs.Ends.{shown_bytes}
use Rattle.ariadne_render.specs.declared.long_line.LongLine.{LongLine}

-- if a line is, these lines have it, and show so many bytes of it
abbrev pub IsRemembered : List (List ℕ) → Option LongLine → Type 0
IsRemembered lines long = IfSome long (λ x. x.shown ≡ shown_bytes (line_text lines x.line))
