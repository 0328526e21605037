-- Why nothing was drawn, or not all of it, the status that a command ends with, and why a file is not
-- checked.
use Rattle.std.specs.Prelude.{ℕ, ◌≡◌, Bool, true, List, [], ◌∷◌, codes, Option, IfSome}
use Rattle.std.specs.Prelude.{Result, Ok, Err, Vec, ⊤}
use Rattle.std.specs.Str.{IsUtf8}
use Rattle.std.specs.declared.alloc.Global.{Global}
use Rattle.ariadne.specs.FileError.{FileError}
use Rattle.ariadne.specs.FileError.TheVariants as of_cache
use Rattle.ariadne.specs.LeftOut.{LeftOut}
use Rattle.ariadne.specs.Reason.{Reason}
use Rattle.ariadne.specs.Reason.TheVariants.{Unfetched, PastSource}
use Rattle.ariadne.specs.Reason.TheVariants.{CutsCharacter}
use Rattle.ariadne.specs.declared.write_error.WriteError.{WriteError}
use Rattle.ariadne.specs.declared.write_error.WriteError.TheVariants as write
use Rattle.ariadne_commands.specs.declared.fault.Fault.{Fault}
use Rattle.ariadne_commands.specs.declared.fault.Fault.TheVariants.{Usage, Unread, NotUtf8, Writer}
use Rattle.ariadne_commands.specs.declared.fault.Fault.TheVariants.{Memory}
use Rattle.ariadne_commands.specs.declared.fault.FileFault.{FileFault}
use Rattle.ariadne_commands.specs.declared.fault.FileFault.TheVariants as of_file
use Rattle.ariadne_commands.specs.declared.fault.Status.{Status}
use Rattle.ariadne_commands.specs.declared.fault.Status.TheVariants.{BadInput, Failed}
use Rattle.ariadne_commands.specs.declared.fault.Status.TheVariants as status

-- the fault that an error is
abbrev pub fault_of : WriteError → Fault
fault_of (write.Memory refused) = Memory refused
fault_of (write.Io sent fault) = Writer sent

-- the status that a fault ends with
abbrev pub status_of : Fault → Status
status_of (Usage line) = BadInput
status_of Unread = BadInput
status_of NotUtf8 = BadInput
status_of (Writer sent) = Failed
status_of (Memory refused) = Failed

-- the status of a report that was written without these labels
abbrev pub status_without : {E : Type 0} → List (LeftOut E) → Status
status_without [] = status.Clean
status_without (label ∷ labels) = status.Findings

-- the status that the writing of a report ends with
abbrev pub status_of_written : {E : Type 0} → Result (Vec (LeftOut E) Global) WriteError → Status
status_of_written (Ok left_out) = status_without left_out.items
status_of_written (Err error) = status_of (fault_of error)

-- bytes are no text, where they are known
abbrev pub IsNoText : Option (List ℕ) → Type 0
IsNoText input = IfSome input (λ bytes. IsUtf8 bytes → ⊥)

-- a fault of reading an input with these bytes: a read has failed, it is no text, or there was no
-- memory
abbrev pub IsFaultOfInput : Bool → Option (List ℕ) → Fault → Type 0
IsFaultOfInput has_failed input (Usage line) = ⊥
IsFaultOfInput has_failed input Unread = has_failed ≡ true
IsFaultOfInput has_failed input NotUtf8 = IsNoText input
IsFaultOfInput has_failed input (Writer sent) = ⊥
IsFaultOfInput has_failed input (Memory refused) = ⊤

-- what is told of a label that was left out for this reason
abbrev pub reason_text : {E : Type 0} → Reason E → List ℕ
reason_text (Unfetched error) = codes "unfetched"
reason_text PastSource = codes "past source"
reason_text CutsCharacter = codes "cuts a character"

-- what an error of the cache means
abbrev pub file_fault_of : FileError → FileFault
file_fault_of (of_cache.Read error) = of_file.Unread
file_fault_of of_cache.NotUtf8 = of_file.NotUtf8
