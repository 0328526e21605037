-- What a reader and a writer of the tests return when they stop.
use Rattle.std.specs.Prelude.{ℕ, ◌≡◌, Option, Some, None, Result, MatchResult}
use Rattle.std.specs.IoError.{error_kind}
use Rattle.std.specs.declared.io.Error.{Error}
use Rattle.std.specs.declared.io.ErrorKind.{ErrorKind}

-- the fault, or no byte where there is none
abbrev pub Stops : Option ErrorKind → Result ℕ Error → Type 0
Stops fault result =
    MatchResult result (λ n. (n ≡ 0) × (fault ≡ None)) (λ e. fault ≡ Some (error_kind e))
