-- A text that goes on with a line.
use Rattle.std.proofs.Common.{◌≡◌, ◌∙◌, ℕ, List, [], ◌∷◌, ◌++◌, refl, ap, sym}
use Rattle.std.specs.Prelude.{map, String, string_bytes}
use Rattle.std.specs.declared.alloc.Global.{Global}
use Rattle.ariadne_blocks.specs.Blocks.{gone_on}
use Rattle.ariadne_blocks.proofs.Lists.{pushed}

-- the last of texts does
gone_last : (between more : List ℕ) (ts : List (List ℕ)) (t : List ℕ)
    → gone_on between more (ts ++ t ∷ []) ≡ ts ++ (t ++ between ++ more) ∷ []
gone_last between more [] t = refl
gone_last between more (a ∷ []) t = refl
gone_last between more (a ∷ b ∷ ts) t = ap (λ l. a ∷ l) (gone_last between more (b ∷ ts) t)

pub gone : (between more : List ℕ) (old front new : List (String Global)) (last now : String Global)
    → old ≡ front ++ last ∷ [] → new ≡ front ++ now ∷ []
    → string_bytes now ≡ string_bytes last ++ between ++ more
    → map string_bytes new ≡ gone_on between more (map string_bytes old)
gone between more old front new last now was is wrote =
    pushed string_bytes front new now is
    ∙ ap (λ t. map string_bytes front ++ t ∷ []) wrote
    ∙ sym (gone_last between more (map string_bytes front) (string_bytes last))
    ∙ ap (gone_on between more) (sym (pushed string_bytes front old last was))
