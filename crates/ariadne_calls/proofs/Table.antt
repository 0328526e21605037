-- What is lent of a table.
use Rattle.std.proofs.Common.{◌≡◌, sym}
use Rattle.std.specs.Prelude.{ℕ, List, Option, Some, None, slice_get}
use Rattle.std.specs.Borrow.{Bor}
use Rattle.std.specs.Option.{option_copied}
use Rattle.std.specs.Slice.{IsItemAt}
use Rattle.std.proofs.lemmas.Option.{slice_get_past}
use Rattle.ariadne_calls.proofs.Numbers.{element}

-- it is what stands at the place, if there is something
pub lent : {X : Type 0} (xs : List X) (i : ℕ) (r : Option (Bor X)) → IsItemAt xs i r → option_copied r ≡ slice_get xs i
lent xs i None h = sym (slice_get_past xs i h.3)
lent xs i (Some x) h = sym (element xs i x.now h.3.0 (h.3.1 x.now))
