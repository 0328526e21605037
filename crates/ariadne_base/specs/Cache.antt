-- What a fetch does to a cache. The contents of a cache are a finite map from ids to sources, given
-- as a list of pairs. It is read by look-ups alone: the first pair of an id counts, and no order
-- shows.
use Rattle.std.specs.Prelude.{◌≡◌, ℕ, Bool, false, List, map, Option, Some, None, IsSome, Result}
use Rattle.std.specs.Prelude.{Ok, Err, ⊤}
use Rattle.std.specs.Map.{lookup}
use Rattle.ariadne_base.specs.Listing.{Listing}
use Rattle.ariadne_base.specs.declared.cache.FetchError.{FetchError}
use Rattle.ariadne_base.specs.declared.cache.FetchError.TheVariants.{Memory, Failed}

-- ids count as one where eq says so
module _ {Id : Type 0} (eq : Id → Id → Bool) where
  -- the source that is held under an id
  abbrev pub held : List (Id × Listing) → Id → Option Listing
  held contents id = lookup (eq id) contents

  -- each id finds the same in both
  abbrev pub SameHeld : List (Id × Listing) → List (Id × Listing) → Type 0
  SameHeld old new = (q : Id) → held new q ≡ held old q

  -- each old pair stays
  abbrev pub Grows : List (Id × Listing) → List (Id × Listing) → Type 0
  Grows old new = (q : Id) → IsSome (held old q) → held new q ≡ held old q

  -- an id other than this one finds what it found before
  abbrev pub KeepsOtherIds : Id → List (Id × Listing) → List (Id × Listing) → Type 0
  KeepsOtherIds id old new = (q : Id) → eq id q ≡ false → held new q ≡ held old q

  -- what a fetch of an id leaves, by its result. After Ok the id is held and nothing else is new,
  -- and where it was held before nothing is. Both errors leave all as it was, and say that the id
  -- was not held.
  abbrev pub Fetched : {E : Type 0} → (Id → E → Type 0) → List (Id × Listing) → List (Id × Listing)
      → Id → Result Unit (FetchError E) → Type 0
  Fetched fails old new id (Ok _) =
      IsSome (held new id) × Grows old new × KeepsOtherIds id old new
      × (IsSome (held old id) → SameHeld old new)
  Fetched fails old new id (Err (Memory _)) = (held old id ≡ None) × SameHeld old new
  Fetched fails old new id (Err (Failed e)) = (held old id ≡ None) × SameHeld old new × fails id e

-- a refusal for want of memory, or with an error that may be returned for the id
abbrev pub Refuses : {Id E : Type 0} → (Id → E → Type 0) → Id → FetchError E → Type 0
Refuses fails id (Memory _) = ⊤
Refuses fails id (Failed e) = fails id e

-- the source of a text as it is at first
abbrev pub listing_of : List ℕ → Listing
listing_of bytes = record { text = bytes; display_offset = 0 }

-- the sources of pairs of id and text
abbrev pub listed : {Id I : Type 0} → (I → List ℕ) → List (Id × I) → List (Id × Listing)
listed text pairs = map (λ p. (p.0, listing_of (text p.1))) pairs

-- what a cache with a function holds under an id and returns, by what its function returned
abbrev pub Answers : {I E : Type 0} → (I → List ℕ) → Result I E → Option Listing
    → Result Unit (FetchError E) → Type 0
Answers text (Ok t) new (Ok _) = new ≡ Some (listing_of (text t))
Answers text (Ok t) new (Err (Memory _)) = new ≡ None
Answers text (Err e) new (Err (Failed e')) = e' ≡ e
Answers text _ new _ = ⊥
