-- What was found of a file.
use Rattle.std.specs.Prelude.{ℕ, ◌≡◌, Bool, true, false, List, Option, Some, None, chars}
use Rattle.ariadne.specs.Listing.{Listing}
use Rattle.ariadne_commands.specs.Brackets.{IsFirstOffence}
use Rattle.ariadne_commands.specs.declared.checked.Outcome.{Outcome}
use Rattle.ariadne_commands.specs.declared.checked.Outcome.TheVariants.{Balanced, Offends, Unread}
use Rattle.ariadne_commands.specs.declared.offence.Offence.{Offence}
use Rattle.ariadne_commands.specs.declared.offence.Offence.TheVariants.{Unopened, Mismatched}
use Rattle.ariadne_commands.specs.declared.offence.Offence.TheVariants.{Unclosed}

-- the characters where an offence begins and ends
abbrev pub first_offset : Offence → ℕ
first_offset (Unopened p) = p
first_offset (Mismatched o p) = o
first_offset (Unclosed o) = o

abbrev pub last_offset : Offence → ℕ
last_offset (Unopened p) = p
last_offset (Mismatched o p) = p
last_offset (Unclosed o) = o

-- the same of an outcome, 0 where it is no offence
abbrev pub outcome_first : Outcome → ℕ
outcome_first (Offends offence) = first_offset offence
outcome_first Balanced = 0
outcome_first Unread = 0

abbrev pub outcome_last : Outcome → ℕ
outcome_last (Offends offence) = last_offset offence
outcome_last Balanced = 0
outcome_last Unread = 0

-- the file was read
abbrev pub was_read : Outcome → Bool
was_read Balanced = true
was_read (Offends offence) = true
was_read Unread = false

-- its text has an offence
abbrev pub offends : Outcome → Bool
offends Balanced = false
offends (Offends offence) = true
offends Unread = false

-- the outcome of a file that was read, by its characters
abbrev pub IsOutcomeIn : List ℕ → Outcome → Type 0
IsOutcomeIn text Balanced = IsFirstOffence text None
IsOutcomeIn text (Offends offence) = IsFirstOffence text (Some offence)
IsOutcomeIn text Unread = ⊥

-- the outcome of a file, by what is held of it
abbrev pub IsOutcome : Option Listing → Outcome → Type 0
IsOutcome (Some source) outcome = IsOutcomeIn (chars source.text) outcome
IsOutcome None outcome = outcome ≡ Unread
