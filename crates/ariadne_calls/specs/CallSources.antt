-- The sources of a call, by their numbers.
use Rattle.std.specs.Prelude.{◌≡◌, ◌==◌, ℕ, ⊤, if◌then◌else◌, List, [], ◌∷◌, map, Option, Some}
use Rattle.std.specs.Prelude.{None, slice_get}
use Rattle.std.specs.List.{enumerate_from}
use Rattle.std.specs.Option.{option_copied, option_and_then}
use Rattle.ariadne.specs.Listing.{Listing}
use Rattle.ariadne_safe.specs.Visible.{visible_bytes}
use Rattle.ariadne_safe.specs.declared.text.TextKind.TheVariants.{Lines}
use Rattle.ariadne_calls.specs.declared.given.GivenSource.{GivenSource}
use Rattle.ariadne_calls.specs.declared.given.OptionalText.{OptionalText}
use Rattle.ariadne_calls.specs.declared.sources.Named.{Named}

-- a text that may be none
abbrev pub given_text : OptionalText → Option (List ℕ)
given_text t = if t.is_given == 0 then None else Some t.text.bytes.now

-- a given source
abbrev pub listing_of : GivenSource → Listing
listing_of s = record { text = s.text.bytes.now; display_offset = s.line_offset }

-- the same with a sign for each hidden character
abbrev pub shown_listing : GivenSource → Listing
shown_listing s = record {
  text = visible_bytes Lines s.text.bytes.now;
  display_offset = s.line_offset;
}

-- the given sources, each under its number, and their names
abbrev pub given : List GivenSource → List (ℕ × Listing)
given sources = enumerate_from 0 (map listing_of sources)

abbrev pub name_of : List GivenSource → ℕ → Option (List ℕ)
name_of sources id = option_and_then (λ s. given_text s.name) (slice_get sources id)

-- ---- the cache that a call makes of them

-- each source under its number
abbrev pub contents_of : List Named → List (ℕ × Listing)
contents_of items = enumerate_from 0 (map (λ n. n.source) items)

-- the name of the source with a number
abbrev pub name_in : List Named → ℕ → Option (List ℕ)
name_in items id = option_and_then (λ n. option_copied n.name) (slice_get items id)

-- an item is the given source
pub record IsNamed (s : GivenSource) (n : Named) : Type 0 where
  pub name : option_copied n.name ≡ given_text s.name
  pub source : n.source ≡ listing_of s

-- the items are the given sources, in order
abbrev pub AreNamed : List GivenSource → List Named → Type 0
AreNamed [] [] = ⊤
AreNamed [] (n ∷ items) = ⊥
AreNamed (s ∷ sources) [] = ⊥
AreNamed (s ∷ sources) (n ∷ items) = IsNamed s n × AreNamed sources items
