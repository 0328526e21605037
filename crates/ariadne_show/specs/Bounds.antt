-- Which files are read: by their paths from the root without links, which are their bytes.
use Rattle.std.specs.Prelude.{ℕ, ⊤, List, codes}
use Rattle.std.specs.Path.{path_buf_bytes, PathStartsWith}
use Rattle.ariadne_show.specs.declared.bounds.Bounds.{Bounds}
use Rattle.ariadne_show.specs.declared.bounds.Bounds.TheVariants.{Anywhere, Below, Nowhere}

-- a path lies within bounds
abbrev pub IsWithin : Bounds → List ℕ → Type 0
IsWithin Anywhere path = ⊤
IsWithin (Below folder) path = PathStartsWith path (path_buf_bytes folder)
IsWithin Nowhere path = ⊥

-- the file at a path may be read: the path lies within the bounds, and not among those that the system
-- makes up
pub record IsAllowed (bounds : Bounds) (path : List ℕ) : Type 0 where
  pub within : IsWithin bounds path
  pub no_process : ¬ (PathStartsWith path (codes "/proc"))
  pub no_system : ¬ (PathStartsWith path (codes "/sys"))
