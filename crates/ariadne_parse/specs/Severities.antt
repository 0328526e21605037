-- The names that tools give severities, in any case of letters.
use Rattle.std.specs.Prelude.{ℕ, Bool, ◌||◌, if◌then◌else◌, List, codes, Option, Some, None}
use Rattle.std.specs.Str.{str_eq_ignore_ascii_case}
use Rattle.ariadne_parse.specs.declared.diagnostic.Severity.{Severity}
use Rattle.ariadne_parse.specs.declared.diagnostic.Severity.TheVariants.{Error, Warning, Note}

-- a name is this one
abbrev pub is_named : List ℕ → List ℕ → Bool
is_named known name = str_eq_ignore_ascii_case name known

-- of errors
abbrev pub is_error : List ℕ → Bool
is_error name =
    is_named (codes "error") name || is_named (codes "fatal") name
    || is_named (codes "fatal error") name || is_named (codes "internal compiler error") name
    || is_named (codes "error: internal compiler error") name
    || is_named (codes "sorry, unimplemented") name

-- of warnings that say what they are about
abbrev pub is_own_warning : List ℕ → Bool
is_own_warning name = is_named (codes "performance") name || is_named (codes "portability") name

-- of warnings
abbrev pub is_warning : List ℕ → Bool
is_warning name =
    is_named (codes "warning") name || is_named (codes "pedwarn") name
    || is_named (codes "anachronism") name || is_own_warning name

-- of notes that say what they are about
abbrev pub is_own_note : List ℕ → Bool
is_own_note name = is_named (codes "convention") name || is_named (codes "refactor") name

-- of notes
abbrev pub is_note : List ℕ → Bool
is_note name =
    is_named (codes "note") name || is_named (codes "help") name || is_named (codes "info") name
    || is_named (codes "information") name || is_named (codes "style") name
    || is_named (codes "remark") name || is_named (codes "hint") name
    || is_named (codes "failure-note") name || is_named (codes "advice") name || is_own_note name

-- the severity with a name
unfoldable pub severity_of : List ℕ → Option Severity
severity_of name =
    if is_error name then Some Error else
    (if is_warning name then Some Warning else (if is_note name then Some Note else None))

-- a name says more than its severity
abbrev pub is_own_name : List ℕ → Bool
is_own_name name = is_own_warning name || is_own_note name
