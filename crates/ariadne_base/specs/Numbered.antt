-- What a table of sources shows: its sources in the order in which they were added, each with its
-- name. The number of a source is how many were added before it.
use Rattle.std.specs.Prelude.{ℕ, List, map, Option, slice_get, option_map}
use Rattle.std.specs.List.{enumerate_from}
use Rattle.ariadne_base.specs.Cache.{listing_of}
use Rattle.ariadne_base.specs.Listing.{Listing}

-- a source, and the name that is shown for it
pub record NamedListing : Type 0 where
  pub name : List ℕ
  pub source : Listing

-- a text under a name, as it is added
abbrev pub added : List ℕ → List ℕ → NamedListing
added name text = record { name = name; source = listing_of text }

-- the sources, each under its number
abbrev pub by_number : List NamedListing → List (ℕ × Listing)
by_number table = enumerate_from 0 (map (λ it. it.source) table)

-- the name of the source with a number, if there are so many
abbrev pub name_of : List NamedListing → ℕ → Option (List ℕ)
name_of table number = option_map (λ it. it.name) (slice_get table number)
