-- What of some bytes has reached a writer: all of them, or a beginning whose length is told.
use Rattle.std.specs.Prelude.{ℕ, ◌<◌, ◌≡◌, ◌==◌, ◌&&◌, ◌||◌, Bool, true, not, List, length, take}
use Rattle.std.specs.Prelude.{Option, Result, Ok, Err, MatchResult, IfOk}
use Rattle.std.specs.Io.KnownBytes.{Appends}
use Rattle.ariadne.specs.declared.send.SendError.{SendError}

-- what sending these bytes leaves, by its result
abbrev pub Sends : Option (List ℕ) → Option (List ℕ) → List ℕ → Result Unit SendError → Type 0
Sends before after bytes (Ok _) = Appends before after bytes
Sends before after bytes (Err e) =
    (e.sent < length bytes) × Appends before after (take e.sent bytes)

-- what a call of `take` says of a sink's faults: it has failed where it had before, where this call
-- returns a fault, and where it took nothing of a piece that is not empty
abbrev pub TellsFault : {E : Type 0} → Bool → Bool → Result ℕ E → List ℕ → Type 0
TellsFault old new told bytes =
    MatchResult told (λ n. new ≡ (old || ((n == 0) && not (length bytes == 0)))) (λ e. new ≡ true)

-- what sending says of a sink's faults: where it stops the sink has failed, and else it has where it
-- had before
abbrev pub TellsStop : Bool → Bool → Result Unit SendError → Type 0
TellsStop old new told = MatchResult told (λ _. new ≡ old) (λ _. new ≡ true)

-- what the result of a piece that is not empty means, when so many bytes were sent before it: some
-- were taken, or no more is sent
abbrev pub GoesOn : {E : Type 0} → ℕ → Result ℕ E → Result ℕ SendError → Type 0
GoesOn sent told (Ok n) = (0 < n) × (told ≡ Ok n)
GoesOn sent told (Err e) = (e.sent ≡ sent) × IfOk told (λ n. n ≡ 0)
