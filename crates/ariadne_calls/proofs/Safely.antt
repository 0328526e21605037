-- What is written of a safe report hides nothing.
use Rattle.std.proofs.Common.{sym, subst}
use Rattle.std.specs.Prelude.{ℕ, List, [], Some}
use Rattle.ariadne_safe.specs.Pictures.{GotNothingHidden, HidesNothing}

-- what an empty writer got is all that it has
pub all_hidden : (bytes : List ℕ) → GotNothingHidden (Some []) (Some bytes) → HidesNothing bytes
all_hidden bytes got = subst HidesNothing (sym got.2) got.1
