-- The texts that the program has ready, and what has reached an output of one.
use Rattle.std.specs.Prelude.{ℕ, List, Option}
use Rattle.std.specs.Io.KnownBytes.{Appends}
use Rattle.ariadne_show.specs.Streams.{IsCut}
use Rattle.ariadne_show.specs.declared.fault.Status.{Status}
use Rattle.ariadne_show.specs.declared.fault.Status.TheVariants.{Shown, WithErrors, WrongWords}
use Rattle.ariadne_show.specs.declared.fault.Status.TheVariants.{Failed, BrokenPipe}
use Rattle.ariadne_show.specs.declared.pages.HelpPage.{HelpPage}
use Rattle.ariadne_show.specs.declared.pages.HelpPage.TheVariants.{Help, Version}
use Rattle.ariadne_show.specs.declared.pages.TheConstants.{HELP, VERSION}

-- what a page says
unfoldable pub page_text : HelpPage → List ℕ
page_text Help = HELP.now
page_text Version = VERSION.now

-- what has reached an output of a text, by the status: all of it, or where writing failed its first
-- bytes and not all
abbrev pub IsPageShown : List ℕ → Option (List ℕ) → Option (List ℕ) → Status → Type 0
IsPageShown text before after Shown = Appends before after text
IsPageShown text before after WithErrors = ⊥
IsPageShown text before after WrongWords = ⊥
IsPageShown text before after Failed = IsCut text before after
IsPageShown text before after BrokenPipe = IsCut text before after
