-- What a report reads of the sources that a call gives.
use Rattle.std.proofs.Common.{◌≡◌, ap, refl, arith, inl, inr}
use Rattle.std.specs.Prelude.{ℕ, zero, suc, ◌<◌, ◌≤◌, false, nat_eq, List, [], ◌∷◌, length, map}
use Rattle.std.specs.List.{AllByRecursion, list_any, enumerate_from}
use Rattle.std.proofs.lemmas.Bool.{ne_eqb}
use Rattle.std.proofs.lemmas.Bool.Decides.{leb_tells}
use Rattle.ariadne.specs.Cache.{SameHeld}
use Rattle.ariadne.specs.Listing.{Listing}
use Rattle.ariadne.specs.Judging.{GrowsFor}
use Rattle.ariadne_calls.specs.RequestedReports.{label_of}
use Rattle.ariadne_calls.specs.CallSources.{contents_of, name_in, given, name_of, listing_of, AreNamed}
use Rattle.ariadne_calls.specs.declared.given.GivenLabel.{GivenLabel}
use Rattle.ariadne_calls.specs.declared.given.GivenSource.{GivenSource}
use Rattle.ariadne_calls.specs.declared.sources.Named.{Named}
use Rattle.ariadne_calls.proofs.Numbers.{is_held}

-- the items hold the given sources
same_listings : (sources : List GivenSource) (items : List Named) → AreNamed sources items → map (λ n. n.source) items ≡ map listing_of sources
same_listings [] [] a = refl
same_listings (s ∷ sources) (n ∷ items) a = rw (a.0.source, same_listings sources items a.1) refl
same_listings [] (n ∷ items) a = elim a [ ]
same_listings (s ∷ sources) [] a = elim a [ ]

pub same_given : (sources : List GivenSource) (items : List Named) → AreNamed sources items → contents_of items ≡ given sources
same_given sources items a = ap (enumerate_from 0) (same_listings sources items a)

-- under their names
pub same_name : (sources : List GivenSource) (items : List Named) (q : ℕ) → AreNamed sources items → name_in items q ≡ name_of sources q
same_name [] [] q a = refl
same_name (s ∷ sources) (n ∷ items) zero a = a.0.name
same_name (s ∷ sources) (n ∷ items) (suc q) a = same_name sources items q a.1
same_name [] (n ∷ items) q a = elim a [ ]
same_name (s ∷ sources) [] q a = elim a [ ]

pub same_names : (sources : List GivenSource) (items : List Named) → AreNamed sources items → name_in items ≡ name_of sources
same_names sources items a = λ i q. same_name sources items q a i

-- as many
pub same_count : (sources : List GivenSource) (items : List Named) → AreNamed sources items → length sources ≡ length items
same_count [] [] a = refl
same_count (s ∷ sources) (n ∷ items) a = omega (arith, same_count sources items a.1)
same_count [] (n ∷ items) a = elim a [ ]
same_count (s ∷ sources) [] a = elim a [ ]

-- no label names a source past the last
none_past : (n q : ℕ) (labels : List GivenLabel) → n ≤ q → AllByRecursion (λ label. label.source < n) labels
    → list_any (λ label. nat_eq label.span.0 q) (map label_of labels) ≡ false
none_past n q [] h a = refl
none_past n q (label ∷ labels) h a =
    rw (ne_eqb label.source q (λ e. omega (arith, a.0, h, e))) (none_past n q labels h a.1)

-- so what is held stays the same
pub same_held : (n : ℕ) (labels : List GivenLabel) (items : List Named) (new : List (ℕ × Listing)) → n ≡ length items
    → AllByRecursion (λ label. label.source < n) labels
    → GrowsFor (λ s. s.0) nat_eq (map label_of labels) (contents_of items) new → SameHeld nat_eq (contents_of items) new
same_held n labels items new count a grows q =
    elim (leb_tells n q) [
      | inl past ↦ grows.only q (none_past n q labels past.1 a)
      | inr inside ↦ grows.kept q (is_held items q (omega (arith, inside.1, count)))
    ]
