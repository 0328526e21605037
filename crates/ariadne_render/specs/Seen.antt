-- The places of a cut line of which anything is seen.
use Rattle.std.specs.Prelude.{ℕ, ◌≡◌, ◌<◌, ◌≤◌, List, take}
use Rattle.ariadne_picture.specs.declared.sight.Part.{Part}
use Rattle.ariadne_picture.specs.declared.sight.Sight.TheVariants.{Unseen}
use Rattle.ariadne_picture.specs.Columns.{sight_in}
use Rattle.ariadne_layout.specs.Cuts.{end_of}
use Rattle.ariadne_render.specs.declared.seen.SeenPlace.{SeenPlace}

-- nothing is seen of the places from `from` to before `to`, where these parts of a line are shown
abbrev pub AreUnseen : List Part → ℕ → ℕ → Type 0
AreUnseen parts from to = (k : ℕ) → from ≤ k → k < to → sight_in parts k ≡ Unseen

-- nor of any place from `from` on
abbrev pub AreUnseenFrom : List Part → ℕ → Type 0
AreUnseenFrom parts from = (k : ℕ) → from ≤ k → sight_in parts k ≡ Unseen

-- x is the first place from this one on of which anything is seen, where these parts of a line are
-- shown; the parts before its own end by then
pub record IsSeenNext (parts : List Part) (place : ℕ) (x : SeenPlace) : Type 0 where
  pub onward : place ≤ x.place
  pub sight : sight_in parts x.place ≡ x.sight
  pub shows : x.sight ≡ Unseen → ⊥
  pub unseen : AreUnseen parts place x.place
  pub passed : end_of 0 (take x.part parts) ≤ x.place
