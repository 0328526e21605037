-- The texts that the program has ready, which words ask for each, and what has reached an output of
-- one.
use Rattle.std.specs.Prelude.{ℕ, ◌<◌, if◌then◌else◌, List, [], ◌∷◌, length, take, codes}
use Rattle.std.specs.Prelude.{Option, Some, None}
use Rattle.std.specs.Io.KnownBytes.{Appends}
use Rattle.std.specs.Str.{bytes_eq}
use Rattle.ariadne_commands.specs.declared.fault.Status.{Status}
use Rattle.ariadne_commands.specs.declared.fault.Status.TheVariants as status
use Rattle.ariadne_commands.specs.declared.pages.HelpPage.{HelpPage}
use Rattle.ariadne_commands.specs.declared.pages.HelpPage.TheVariants.{Help, Version}
use Rattle.ariadne_commands.specs.declared.pages.TheConstants.{HELP, VERSION}

-- what a page says
unfoldable pub page_text : HelpPage → List ℕ
page_text Help = HELP.now
page_text Version = VERSION.now

-- a page has a word
abbrev pub page_named : List ℕ → Option HelpPage
page_named word =
    if bytes_eq word (codes "--help") then Some Help else
    (if bytes_eq word (codes "--version") then Some Version else None)

-- which asks for it where it is the only word
abbrev pub page_asked : List (List ℕ) → Option HelpPage
page_asked [] = None
page_asked (word ∷ []) = page_named word
page_asked (word ∷ other ∷ words) = None

-- what has reached an output of a text, by the status: all of it, or where writing failed its first
-- bytes and not all
abbrev pub IsShown : List ℕ → Option (List ℕ) → Option (List ℕ) → Status → Type 0
IsShown text before after status.Clean = Appends before after text
IsShown text before after status.Findings = ⊥
IsShown text before after status.BadInput = ⊥
IsShown text before after status.Failed =
    (sent : ℕ) × (sent < length text) × Appends before after (take sent text)
