-- Sources that are read safely, one after another.
use Rattle.std.proofs.Common.{ℕ, ◌+◌, ◌<◌, List, [], ◌∷◌, ◌++◌, length, get_or, take}
use Rattle.std.proofs.lemmas.List.{take_more}
use Rattle.ariadne_safe.specs.declared.sources.SafeSource.{SafeSource}
use Rattle.ariadne_calls.specs.Safe.{AreSafe, IsSafe}
use Rattle.ariadne_calls.specs.declared.given.GivenSource.{GivenSource}

-- one source more
safe_more : (sources : List GivenSource) (safe : List SafeSource) (s : GivenSource) (x : SafeSource) → AreSafe sources safe → IsSafe s x
    → AreSafe (sources ++ s ∷ []) (safe ++ x ∷ [])
safe_more [] [] s x a h = (h, tt)
safe_more (t ∷ sources) (y ∷ safe) s x a h = (a.0, safe_more sources safe s x a.1 h)
safe_more [] (y ∷ safe) s x a h = elim a [ ]
safe_more (t ∷ sources) [] s x a h = elim a [ ]

-- one source more is read
pub more_safe : (sources : List GivenSource) (safe : List SafeSource) (i : ℕ) (d : GivenSource) (x : SafeSource) → i < length sources
    → AreSafe (take i sources) safe → IsSafe (get_or sources i d) x → AreSafe (take (i + 1) sources) (safe ++ x ∷ [])
more_safe sources safe i d x h a is = rw (take_more sources i d h) (safe_more (take i sources) safe (get_or sources i d) x a is)
