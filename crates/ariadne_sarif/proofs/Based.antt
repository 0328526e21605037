-- The bases that a location of SARIF names, one behind the other.
use Rattle.std.proofs.Common.{◌≡◌, ◌∙◌, ap, refl}
use Rattle.std.specs.Prelude.{ℕ, zero, suc, List, Option, Some, None, codes, option_map, unwrap_or}
use Rattle.serde_json.specs.Data.{Data}
use Rattle.ariadne_parse.specs.Members.{words_at}
use Rattle.ariadne_sarif.specs.SarifSpans.{base_of, based}
use Rattle.ariadne_sarif.specs.Uris.{joined}

-- no base is followed
pub based_end : (n : ℕ) (run location_value : Data) (uri : List ℕ) → n ≡ 0 → based n run location_value uri ≡ uri
unfolding based
based_end n run location_value uri none = ap (λ k. based k run location_value uri) none

-- none is named
pub based_last : (n : ℕ) (run location_value : Data) (uri : List ℕ) → base_of run location_value ≡ None → based n run location_value uri ≡ uri
unfolding based
based_last zero run location_value uri none = refl
based_last (suc n) run location_value uri none =
    ap (λ (o : Option Data). unwrap_or (option_map (λ base. based n run base (joined (words_at (codes "uri") base) uri)) o) uri) none

-- one is
pub based_next : (n m : ℕ) (run location_value base : Data) (uri : List ℕ) → n ≡ suc m → base_of run location_value ≡ Some base
    → based n run location_value uri ≡ based m run base (joined (words_at (codes "uri") base) uri)
unfolding based
based_next n m run location_value base uri more is =
    ap (λ k. based k run location_value uri) more
    ∙ ap (λ (o : Option Data). unwrap_or (option_map (λ base. based m run base (joined (words_at (codes "uri") base) uri)) o) uri) is
