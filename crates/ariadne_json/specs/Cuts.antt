-- A text cut into pieces, one behind the other, by how long the first piece of each rest is.
use Rattle.std.specs.Prelude.{ℕ, zero, suc, ◌==◌, if◌then◌else◌, List, [], ◌∷◌, drop, length, take}

-- n pieces at most
abbrev pub pieces_at : ℕ → (List ℕ → ℕ) → List ℕ → List (List ℕ)
pieces_at zero len text = []
pieces_at (suc n) len text =
    if length text == 0 then [] else take (len text) text ∷ pieces_at n len (drop (len text) text)

-- all of them, of which each has a byte at least
abbrev pub pieces : (List ℕ → ℕ) → List ℕ → List (List ℕ)
pieces len text = pieces_at (length text) len text
