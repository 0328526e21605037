-- What the words of an entry in TOML stand for.
use Rattle.std.specs.Prelude.{ℕ, Bool, true, false, if◌then◌else◌, List, codes, Option, Some, None, unwrap_or}
use Rattle.std.specs.Str.{bytes_eq}
use Rattle.ariadne_matchers.specs.declared.entry.Severity.{Severity}
use Rattle.ariadne_matchers.specs.declared.entry.Severity.TheVariants.{Error, Warning, Note}
use Rattle.ariadne_matchers.specs.declared.measure.Unit.{Unit}
use Rattle.ariadne_matchers.specs.declared.measure.Unit.TheVariants.{Characters, Bytes, Utf16, Display}

-- what columns count
abbrev pub unit_named : List ℕ → Option Unit
unit_named word =
    if bytes_eq word (codes "characters") then Some Characters else
    (if bytes_eq word (codes "bytes") then Some Bytes else
    (if bytes_eq word (codes "utf16") then Some Utf16 else
    (if bytes_eq word (codes "display") then Some Display else None)))

-- how far tab stops stand from each other: 8 columns on a terminal, and else as it is told
abbrev pub stops_of : Unit → Option ℕ → ℕ
stops_of Characters told = unwrap_or told 1
stops_of Bytes told = unwrap_or told 1
stops_of Utf16 told = unwrap_or told 1
stops_of Display told = 8

-- a severity
abbrev pub severity_named : List ℕ → Option Severity
severity_named word =
    if bytes_eq word (codes "error") then Some Error else
    (if bytes_eq word (codes "warning") then Some Warning else
    (if bytes_eq word (codes "note") then Some Note else None))

-- one as editors name it
abbrev pub editor_severity_named : List ℕ → Option Severity
editor_severity_named word =
    if bytes_eq word (codes "error") then Some Error else
    (if bytes_eq word (codes "warning") then Some Warning else
    (if bytes_eq word (codes "info") then Some Note else None))

-- an end is the last character's column: it is the one behind it where nothing else is said
abbrev pub end_named : List ℕ → Option Bool
end_named word =
    if bytes_eq word (codes "last") then Some true else
    (if bytes_eq word (codes "behind") then Some false else None)

-- `%25` and the like stand for characters: they don't where nothing is said
abbrev pub escapes_named : Option (List ℕ) → Option Bool
escapes_named None = Some false
escapes_named (Some word) = if bytes_eq word (codes "percent") then Some true else None
