-- What the calls that build a report say: codes, colours that are equal, and what an iterator gave.
use Rattle.std.specs.Prelude.{ℕ, ◌-◌, ◌++◌, List, length, replicate, Option, Some, chars}
use Rattle.std.specs.Prelude.{decimal}
use Rattle.std.specs.Iterator.{Drains, YieldsThen}

-- a code that is given as a number: its digits, with zeros in front where they are less than two
abbrev pub numeric_code : ℕ → List ℕ
numeric_code code = replicate (2 - length (decimal code)) 48 ++ decimal code

-- a code that is given as a text: with blanks behind it where it has less than two characters
abbrev pub filled_code : List ℕ → List ℕ
filled_code text = text ++ replicate (2 - length (chars text)) 32

-- what these items became gave xs, and then nothing more
abbrev pub GivesAll : {U T A : Type 0} → (U → T → Type 0) → (T → Option A → T → Type 0) → U
    → List A → Type 0
GivesAll {T = T} becomes steps items xs = (it : T) × becomes items it × Drains steps it xs

-- what these items became gave xs, and then one more
abbrev pub GivesMore : {U T A : Type 0} → (U → T → Type 0) → (T → Option A → T → Type 0) → U
    → List A → Type 0
GivesMore {T = T} {A = A} becomes steps items xs =
    (it : T) × (x : A) × (rest : T) × becomes items it × YieldsThen steps it xs (Some x) rest
