-- Where an offence lies.
use Rattle.std.proofs.Common.{◌≡◌, refl, ap, arith}
use Rattle.std.specs.Prelude.{ℕ, ◌<◌, ◌≤◌, List, length, slice_get, Option, Some, None, chars}
use Rattle.std.specs.Option.{IsSome, IsSomeAnd}
use Rattle.std.specs.Str.{IsUtf8}
use Rattle.std.proofs.lemmas.Option.{slice_get_within}
use Rattle.std.proofs.lemmas.Str.{encodes-chars, length-le-encodes}
use Rattle.ariadne_commands.specs.Brackets.{IsFirstOffence, closing_of}
use Rattle.ariadne_commands.specs.Outcomes.{first_offset, last_offset}
use Rattle.ariadne_commands.specs.declared.offence.Offence.{Offence}
use Rattle.ariadne_commands.specs.declared.offence.Offence.TheVariants.{Unopened, Mismatched, Unclosed}

-- a text has at most as many characters as bytes
pub length-chars : (bytes : List ℕ) → IsUtf8 bytes → length (chars bytes) ≤ length bytes
length-chars bytes is = omega (arith, length-le-encodes (chars bytes), ap length (encodes-chars bytes is))

-- an offence ends no earlier than it starts
pub offence_forward : (text : List ℕ) (offence : Offence) → IsFirstOffence text (Some offence) → first_offset offence ≤ last_offset offence
offence_forward text (Unopened p) is = omega arith
offence_forward text (Mismatched o p) is = let before = is.before in omega arith
offence_forward text (Unclosed o) is = omega arith

-- a bracket that is there is within
opens_within : (text : List ℕ) (o : ℕ) (there : Option ℕ) → slice_get text o ≡ there → IsSomeAnd there (λ c. IsSome (closing_of c)) → o < length text
opens_within text o (Some c) is opens = slice_get_within text o c is
opens_within text o None is opens = elim opens [ ]

-- and so is an offence
pub offence_within : (text : List ℕ) (offence : Offence) → IsFirstOffence text (Some offence) → last_offset offence < length text
offence_within text (Unopened p) is = is.breaks.within
offence_within text (Mismatched o p) is = is.breaks.within
offence_within text (Unclosed o) is = opens_within text o (slice_get text o) refl is.opens
