-- The pieces of a text that changes leave, where they stand in the edited text, and which lines begin at
-- the same byte of one. Offsets count bytes.
use Rattle.std.specs.Prelude.{ℕ, ◌+◌, ◌-◌, ◌≤◌, ◌≡◌, ◌==◌, nat_lt, if◌then◌else◌, List, [], ◌∷◌, ◌++◌, length, flat_map}
use Rattle.ariadne_base.specs.Locations.{byte_len, column_at, line_at, line_offset, upto}
use Rattle.ariadne_edits.specs.declared.change.Change.{Change}
use Rattle.ariadne_edits.specs.declared.hints.Stay.{Stay}

-- ---- pieces

-- a piece that stays: it has the bytes from `at` to `end`, which stand at `to` in an edited text of
-- `total` bytes. It lies behind the first `low` bytes of the source, and there behind the first `new_low`
pub record IsStay (total low new_low at to end : ℕ) (stay : Stay) : Type 0 where
  pub rises : stay.start ≤ stay.end
  pub behind : low ≤ stay.start
  pub new_behind : new_low ≤ stay.to
  pub starts : stay.start ≤ at
  pub ends : end ≤ stay.end
  pub moved : stay.start + to ≡ stay.to + at
  pub within : stay.to + stay.end ≤ total + stay.start

-- pieces one behind the other: in front of each change there is one, and behind the last
abbrev pub AreStays : ℕ → ℕ → ℕ → ℕ → ℕ → ℕ → List Change → List Stay → Type 0
AreStays size total low new_low at to changes [] = ⊥
AreStays size total low new_low at to [] (s ∷ stays) =
    IsStay total low new_low at to size s × (stays ≡ [])
AreStays size total low new_low at to (c ∷ changes) (s ∷ stays) =
    IsStay total low new_low at to c.start s
    × AreStays size total s.end (s.to + (s.end - s.start)) c.end
    (to + (c.start - at + length c.text.now)) changes stays

-- a byte of a piece, if it lies behind its start, stands within a text of `total` bytes
abbrev pub IsInside : ℕ → ℕ → Stay → Type 0
IsInside total begin s = s.to + begin ≤ total + s.start

-- ---- lines that begin at the same byte of a piece

-- the pieces from the first that reaches up to a byte
unfoldable pub from_reaching : ℕ → List Stay → List Stay
from_reaching begin [] = []
from_reaching begin (s ∷ stays) =
    if nat_lt s.end begin then from_reaching begin stays else (s ∷ stays)

-- line i, with the line that begins at a byte, if one does
unfoldable pub pair_at : List (List ℕ) → ℕ → ℕ → List (ℕ × ℕ)
pair_at new i to = if column_at byte_len new to == 0 then ((i, line_at byte_len new to) ∷ []) else []

-- line i, which begins at a byte, with each line that begins at the same byte of one of the pieces
unfoldable pub pairs_in : List (List ℕ) → ℕ → ℕ → List Stay → List (ℕ × ℕ)
pairs_in new i begin [] = []
pairs_in new i begin (s ∷ stays) =
    if nat_lt begin s.start then []
    else (pair_at new i (s.to + (begin - s.start)) ++ pairs_in new i begin stays)

-- the same of the pieces that reach up to it
unfoldable pub line_pairs : List (List ℕ) → List (List ℕ) → List Stay → ℕ → List (ℕ × ℕ)
line_pairs old new stays i =
    pairs_in new i (line_offset byte_len old i) (from_reaching (line_offset byte_len old i) stays)

-- and of the first n lines
abbrev pub first_pairs : List (List ℕ) → List (List ℕ) → List Stay → ℕ → List (ℕ × ℕ)
first_pairs old new stays n = flat_map (line_pairs old new stays) (upto n)
