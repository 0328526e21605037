-- Diagnostics of gcc's, and values behind them.
use Rattle.std.proofs.Common.{◌≡◌, ◌∙◌, List, [], ◌∷◌, ◌++◌, refl, ap, sym}
use Rattle.std.proofs.lemmas.List.{map-append}
use Rattle.std.specs.Prelude.{map}
use Rattle.serde_json.specs.Data.{Data}
use Rattle.ariadne_parse.specs.Gcc.{gcc_behind, last_with}
use Rattle.ariadne_parse.specs.Read.{read, Read}
use Rattle.ariadne_parse.specs.declared.diagnostic.Diagnostic.{Diagnostic}

-- those in front of the last stay
behind_front : (d : Data) (front : List Read) (last : Read) → gcc_behind (front ++ last ∷ []) d ≡ front ++ last_with last d
behind_front d [] last = refl
behind_front d (parsed ∷ []) last = refl
behind_front d (parsed ∷ next ∷ all) last = ap (λ l. parsed ∷ l) (behind_front d (next ∷ all) last)

pub parsed_behind : (d : Data) (old front new : List Diagnostic) (last : Diagnostic) → old ≡ front ++ last ∷ []
    → map read new ≡ map read front ++ last_with (read last) d → map read new ≡ gcc_behind (map read old) d
parsed_behind d old front new last was is =
    is ∙ sym (behind_front d (map read front) (read last))
    ∙ ap (λ all. gcc_behind all d) (sym (ap (map read) was ∙ map-append read front (last ∷ [])))
