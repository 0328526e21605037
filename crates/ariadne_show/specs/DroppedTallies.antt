-- Lines in which a tool counts what it told. They stand behind its last diagnostic, one or several: javac counts
-- errors and warnings each in a line of its own. The program has a sum of its own, and drops them.
use Rattle.std.specs.Prelude.{ℕ, Bool, not, ◌&&◌, ◌||◌, List, is_some}
use Rattle.ariadne_parse.specs.Tallies.{is_tally_line}
use Rattle.ariadne_show.specs.Known.{has_waiting_lines}
use Rattle.ariadne_show.specs.declared.known.Known.{Known}
use Rattle.ariadne_show.specs.declared.writing.Shown.{Shown}

-- the last line that was read is of a diagnostic, or of a sum behind one: a diagnostic is held, or was told
-- last, and no line waits
abbrev pub ends_in_diagnostic : Known → Shown → Bool
ends_in_diagnostic known shown = not (has_waiting_lines known) && (is_some known.block || shown.is_told_last)

-- a line is such a sum
abbrev pub is_tally_behind : List ℕ → Known → Shown → Bool
is_tally_behind text known shown = ends_in_diagnostic known shown && is_tally_line text
