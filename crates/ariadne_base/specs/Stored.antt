-- What a caller sees of a cache with a function: the sources that it holds, and the function as it
-- stands.
use Rattle.std.specs.Prelude.{List}
use Rattle.ariadne_base.specs.Listing.{Listing}

-- the sources that are held, and the function that gets others
pub record Stored (Id F : Type 0) : Type 0 where
  pub sources : List (Id × Listing)
  pub function : F
