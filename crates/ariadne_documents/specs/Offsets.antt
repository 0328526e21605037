-- The span of an offset in a text, by its line and its column, which count from 1. Offsets and columns count UTF-16. A text
-- stands as its bytes in UTF-8: the first byte of a character that takes four is 240 or more, those behind the first are
-- from 128 to 191, and 10 is a line feed.
use Rattle.std.specs.Prelude.{ℕ, ◌+◌, ◌-◌, ◌==◌, nat_le, nat_lt, ◌||◌, if◌then◌else◌, List, [], ◌∷◌, Option, Some, None}
use Rattle.ariadne_parse.specs.declared.diagnostic.Location.{Location}
use Rattle.ariadne_documents.specs.declared.offsets.Walk.{Walk}

-- how many units the character has that a byte begins; none, where it begins none
abbrev pub units : ℕ → ℕ
units b = if nat_le 240 b then 2 else (if nat_lt b 128 || nat_le 192 b then 1 else 0)

-- a walk that goes on behind a byte: in the next line behind a line feed
abbrev pub gone_on : Walk → ℕ → Walk
gone_on walk b =
    if b == 10 then record { left = walk.left - 1; line = walk.line + 1; column = 1 }
    else record { left = walk.left - units b; line = walk.line; column = walk.column + units b }

-- it stands still, where no units are left
abbrev pub step : Walk → ℕ → Walk
step walk b = if walk.left == 0 then walk else gone_on walk b

abbrev pub walked : Walk → List ℕ → Walk
walked walk [] = walk
walked walk (b ∷ t) = walked (step walk b) t

-- where a walk ends, if it came as far as it was to
abbrev pub end_of : Walk → Option Location
end_of walk =
    if walk.left == 0 then Some (record { line = walk.line; column = Some walk.column }) else None

-- the span behind so many units of a text, if it has as many
abbrev pub start : ℕ → Walk
start offset = record { left = offset; line = 1; column = 1 }

abbrev pub location_behind : ℕ → List ℕ → Option Location
location_behind offset text = end_of (walked (start offset) text)
