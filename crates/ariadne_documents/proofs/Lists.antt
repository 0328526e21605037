-- Members of objects.
use Rattle.std.proofs.Common.{◌≡◌, arith, refl}
use Rattle.std.proofs.lemmas.Bool.{ne_eqb}
use Rattle.std.specs.Prelude.{◌==◌, List, [], ◌∷◌, length, String}
use Rattle.std.specs.declared.alloc.Global.{Global}
use Rattle.serde_json.specs.View.{members_view}
use Rattle.serde_json.specs.declared.value.Value.{Value}
use Rattle.ariadne_documents.specs.Objects.{is_one}

-- there is one member where an object has one entry
pub members_one : (entries : List (String Global × Value)) → (length entries == 1) ≡ is_one (members_view entries)
members_one [] = refl
members_one (m ∷ []) = refl
members_one (m ∷ n ∷ entries) = ne_eqb (length (m ∷ n ∷ entries)) 1 (λ one. omega (arith, one))
