-- What a clause reads of a watched reader, and what a read does to it.
use Rattle.std.specs.Prelude.{ℕ, ◌≡◌, ◌≢◌, Bool, true, Result, Ok, Err}
use Rattle.std.specs.IoError.{error_kind}
use Rattle.std.specs.declared.io.Error.{Error}
use Rattle.std.specs.declared.io.ErrorKind.TheVariants.{Interrupted}
use Rattle.ariadne_commands.specs.declared.watched.Watched.{Watched}

-- the reader
abbrev pub reader_of : {R : Type 0} → Watched R → R
reader_of watched = watched.reader

-- whether a read of it has failed
abbrev pub has_failed : {R : Type 0} → Watched R → Bool
has_failed watched = watched.has_failed

-- a read that fails is remembered, but not one that was interrupted
abbrev pub Remembers : Bool → Bool → Result ℕ Error → Type 0
Remembers before after (Ok count) = after ≡ before
Remembers before after (Err error) =
    (error_kind error ≡ Interrupted → after ≡ before)
    × (error_kind error ≢ Interrupted → after ≡ true)
