-- Why the program ends early, and the status that it ends with then.
use Rattle.std.specs.Prelude.{◌≡◌, true, ⊤, string_bytes}
use Rattle.std.specs.declared.io.ErrorKind.{ErrorKind}
use Rattle.std.specs.declared.io.ErrorKind.TheVariants as kind
use Rattle.ariadne_safe.specs.Visible.{is_shown}
use Rattle.ariadne_safe.specs.declared.text.TextKind.TheVariants.{Aside}
use Rattle.ariadne_show.specs.declared.fault.Fault.{Fault}
use Rattle.ariadne_show.specs.declared.fault.Fault.TheVariants.{NoText, Words, Unread, UnreadFile}
use Rattle.ariadne_show.specs.declared.fault.Fault.TheVariants.{Writer, BrokenPipe, Memory}
use Rattle.ariadne_show.specs.declared.fault.Status.{Status}
use Rattle.ariadne_show.specs.declared.fault.Status.TheVariants as status

-- the status that a fault ends with
abbrev pub status_of : Fault → Status
status_of NoText = status.WrongWords
status_of (Words text) = status.WrongWords
status_of Unread = status.Failed
status_of (UnreadFile path reason) = status.Failed
status_of Writer = status.Failed
status_of BrokenPipe = status.BrokenPipe
status_of (Memory refused) = status.Failed

-- what an error of writing means, by its kind
abbrev pub fault_of_writing : ErrorKind → Fault
fault_of_writing kind.BrokenPipe = BrokenPipe
fault_of_writing _ = Writer

-- a write failed
abbrev pub IsOfWriting : Fault → Type 0
IsOfWriting Writer = ⊤
IsOfWriting BrokenPipe = ⊤
IsOfWriting _ = ⊥

-- the fault is that words are wrong, and what it tells of them hides nothing but its line feeds
abbrev pub TellsWords : Fault → Type 0
TellsWords (Words text) = is_shown Aside (string_bytes text) ≡ true
TellsWords _ = ⊥
