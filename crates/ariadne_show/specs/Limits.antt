-- Which diagnostics are drawn: those that are severe enough, up to a number. Those that sum up others
-- count as none.
use Rattle.std.specs.Prelude.{ℕ, ◌==◌, nat_lt, Bool, true, false, not, ◌&&◌, ◌||◌, if◌then◌else◌, List, []}
use Rattle.std.specs.Prelude.{◌∷◌, ◌++◌, codes, decimal, Option, Some, None}
use Rattle.ariadne_parse.specs.declared.diagnostic.Diagnostic.{Diagnostic}
use Rattle.ariadne_parse.specs.declared.diagnostic.Severity.{Severity}
use Rattle.ariadne_parse.specs.declared.diagnostic.Severity.TheVariants.{Error, Warning, Note}
use Rattle.ariadne_show.specs.declared.limits.DrawnCount.{DrawnCount}
use Rattle.ariadne_show.specs.declared.limits.Limits.{Limits}
use Rattle.ariadne_show.specs.declared.options.Options.{Options}
use Rattle.ariadne_show.specs.Sums.{one_more}

-- those that options ask for
abbrev pub limits_of : Options → Limits
limits_of options = record { least = options.floor; most = options.limit }

-- a severity is drawn, where this is the least one
abbrev pub is_reached : Severity → Severity → Bool
is_reached Note severity = true
is_reached Warning Note = false
is_reached Warning Warning = true
is_reached Warning Error = true
is_reached Error Error = true
is_reached Error Warning = false
is_reached Error Note = false

-- there is room for one more
abbrev pub has_room : Option ℕ → ℕ → Bool
has_room None drawn = true
has_room (Some most) drawn = nat_lt drawn most

-- a diagnostic is drawn behind those that were
abbrev pub is_drawn : Limits → Diagnostic → DrawnCount → Bool
is_drawn limits parsed count =
    is_reached limits.least parsed.severity && (parsed.is_sum || has_room limits.most count.drawn)

-- how many are then
abbrev pub drawn_after : Limits → Diagnostic → DrawnCount → DrawnCount
drawn_after limits parsed count =
    if parsed.is_sum || not (is_reached limits.least parsed.severity) then count
    else (if has_room limits.most count.drawn then record count { drawn = one_more count.drawn }
    else record count { more = one_more count.more })

-- how many more there are, as a line
abbrev pub more_text : DrawnCount → List ℕ
more_text count =
    if count.more == 0 then [] else codes "and " ++ decimal count.more ++ codes " more" ++ 10 ∷ []
