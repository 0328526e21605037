-- What is told of a report that was not written whole.
use Rattle.std.specs.Prelude.{ℕ, ◌≡◌, ◌++◌, Bool, true, List, Result, Ok, Err, codes, decimal}
use Rattle.std.specs.IoError.{error_kind}
use Rattle.std.specs.declared.io.Error.{Error}
use Rattle.std.specs.declared.io.ErrorKind.TheVariants.{OutOfMemory}
use Rattle.ariadne.specs.declared.write_error.WriteError.{WriteError}
use Rattle.ariadne.specs.declared.write_error.WriteError.TheVariants.{Memory, Io}

-- the text of an error
abbrev pub shown_error : WriteError → List ℕ
shown_error (Memory _) = codes "no memory"
shown_error (Io sent fault) = codes "write failed after " ++ decimal sent ++ codes " bytes"

-- the fault of input and output that an error becomes: that of the writer, or want of memory
abbrev pub IsFaultOf : WriteError → Error → Type 0
IsFaultOf (Memory _) fault = error_kind fault ≡ OutOfMemory
IsFaultOf (Io sent told) fault = fault ≡ told

-- what the writing of a report says of a sink's faults: after `Io` it has failed, and else it has
-- where it had before
abbrev pub TellsFailure : {A : Type 0} → Bool → Bool → Result A WriteError → Type 0
TellsFailure old new (Ok _) = new ≡ old
TellsFailure old new (Err (Memory _)) = new ≡ old
TellsFailure old new (Err (Io _ _)) = new ≡ true
