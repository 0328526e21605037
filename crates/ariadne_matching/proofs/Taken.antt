-- A line that was read.
use Rattle.std.proofs.Common.{ℕ, ◌≡◌, List, [], ◌∷◌, ◌++◌, length, refl}
use Rattle.std.proofs.lemmas.Str.{utf8_lossy-IsUtf8}
use Rattle.std.specs.Prelude.{IsUtf8}
use Rattle.std.specs.Str.Lossy.{utf8_lossy}
use Rattle.ariadne_matching.specs.HandedOver.{IsWaitingLine}
use Rattle.ariadne_matching.specs.SettledLines.{at_once, last, IsTaken}
use Rattle.ariadne_matching.specs.declared.lines.Waiting.{Waiting}

-- UTF-8 is a text as it is
pub lossy_same : (bytes : List ℕ) → IsUtf8 bytes → utf8_lossy bytes ≡ bytes
lossy_same = utf8_lossy-IsUtf8

-- the line waits
pub taken_last : (bytes : List ℕ) (w w' : List Waiting) (r r' : List ℕ) (line : Waiting) → IsWaitingLine bytes line
    → w' ≡ w ++ line ∷ [] → r' ≡ r → IsTaken bytes w r w' r'
taken_last bytes w w' r r' line is waits same = rw (waits, same) (last is)

-- it is ready
pub taken_at_once : (bytes : List ℕ) (w w' : List Waiting) (r r' : List ℕ) → 0 ≡ length w → w' ≡ w → r' ≡ bytes → IsTaken bytes w r w' r'
taken_at_once bytes [] w' r r' none same ready = rw (same, ready) (at_once refl)
taken_at_once bytes (line ∷ w) w' r r' none same ready = absurd (cc none)
