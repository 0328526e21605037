-- Sources under their numbers: what look-ups by number find.
use Rattle.std.proofs.Common.{◌≡◌, ℕ, zero, suc, ◌+◌, ◌<◌, ◌≤◌, List, [], ◌∷◌, map, length, None, IsSome, refl, arith, eq-eqb}
use Rattle.std.proofs.Common.{◌∙◌}
use Rattle.std.specs.Prelude.{nat_eq, slice_get, option_map}
use Rattle.std.specs.List.{enumerate_from}
use Rattle.std.specs.Map.{lookup}
use Rattle.std.proofs.lemmas.Bool.{ne_eqb}
use Rattle.std.proofs.lemmas.List.{length-map}
use Rattle.std.proofs.lemmas.Option.{slice_get-map, slice_get_past}
use Rattle.ariadne_base.specs.Cache.{held}
use Rattle.ariadne_base.specs.Listing.{Listing}
use Rattle.ariadne_base.specs.Numbered.{NamedListing, by_number}

-- the sources of a table, in order
abbrev sources : List NamedListing → List Listing
sources table = map (λ it. it.source) table

-- a number finds what stands there
lookup-enumerated : {X : Type 0} (n i k : ℕ) (xs : List X) → k ≡ n + i → lookup (nat_eq k) (enumerate_from n xs) ≡ slice_get xs i
lookup-enumerated n i k [] is = refl
lookup-enumerated n zero k (x ∷ xs) is = let same : k ≡ n = omega arith in rw (eq-eqb k n same) refl
lookup-enumerated n (suc i) k (x ∷ xs) is =
    let next : k ≡ n + 1 + i = omega arith in rw (ne_eqb k n (λ e. omega arith)) (lookup-enumerated (n + 1) i k xs next)

-- each place below the length has an element
is_there : {X : Type 0} (xs : List X) (i : ℕ) → i < length xs → IsSome (slice_get xs i)
is_there [] i inside = absurd (omega arith)
is_there (x ∷ xs) zero inside = refl
is_there (x ∷ xs) (suc i) inside = is_there xs i (omega arith)

module _ (table : List NamedListing) (number : ℕ) where
  found : held nat_eq (by_number table) number ≡ slice_get (sources table) number
  found = lookup-enumerated 0 number number (sources table) (omega arith)

  -- the source with a number is found by it
  pub held-by_number : held nat_eq (by_number table) number ≡ option_map (λ it. it.source) (slice_get table number)
  held-by_number = found ∙ slice_get-map (λ it. it.source) table number

  -- it is held where there are so many
  pub IsSome-by_number : number < length table → IsSome (held nat_eq (by_number table) number)
  IsSome-by_number inside = rw found (is_there (sources table) number (rw length-map inside))

  -- and else it is not
  pub IsNone-by_number : length table ≤ number → held nat_eq (by_number table) number ≡ None
  IsNone-by_number past = found ∙ slice_get_past (sources table) number (rw length-map past)
