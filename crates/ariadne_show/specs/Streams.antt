-- Where a run writes, as its contracts see it: what is known of the bytes of each stream.
use Rattle.std.specs.Prelude.{ℕ, ◌<◌, List, Option, length, take}
use Rattle.std.specs.Io.KnownBytes.{Appends}

-- what the output and standard error have
pub record StreamBytes : Type 0 where
  pub output : Option (List ℕ)
  pub beside : Option (List ℕ)

-- of a text that was not sent whole the first bytes have reached an output, and no more
abbrev pub IsCut : List ℕ → Option (List ℕ) → Option (List ℕ) → Type 0
IsCut text before after = (sent : ℕ) × (sent < length text) × Appends before after (take sent text)
