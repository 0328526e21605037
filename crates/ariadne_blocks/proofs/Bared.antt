-- A row without gcc's colours, piece by piece.
use Rattle.std.proofs.Common.{◌≡◌, ◌∙◌, List, ℕ, [], ◌++◌, ap, append_assoc, drop, subst, sym, take}
use Rattle.std.specs.Prelude.{None, Some}
use Rattle.std.specs.Str.Pattern.{FindsText}
use Rattle.ariadne_blocks.specs.Uncolored.{clear, no_color, one_color, without_last, IsBare}

-- nothing is written at first
pub bare_first : (text bare more : List ℕ) → bare ≡ [] → IsBare text more → IsBare text (bare ++ more)
bare_first text bare more none is = subst (λ (b : List ℕ). IsBare text (b ++ more)) (sym none) is

-- one piece more
pub bare_next : (text rest behind bare now more piece : List ℕ) (i j : ℕ)
    → ((m : List ℕ) → IsBare rest m → IsBare text (bare ++ m))
    → FindsText clear rest (Some (i, j)) → behind ≡ drop j rest → piece ≡ without_last (take i rest) → now ≡ bare ++ piece
    → IsBare behind more → IsBare text (now ++ more)
bare_next text rest behind bare now more piece i j so_far found cut is wrote left =
    let whole : IsBare rest (without_last (take i rest) ++ more) =
    one_color i j found (subst (λ (b : List ℕ). IsBare b more) cut left) in
    subst (λ (b : List ℕ). IsBare text b)
    (sym (ap (λ b. b ++ more) (wrote ∙ ap (λ p. bare ++ p) is) ∙ append_assoc bare (without_last (take i rest)) more))
    (so_far (without_last (take i rest) ++ more) whole)

-- and the last one
pub bare_last : (text rest bare now : List ℕ) → ((m : List ℕ) → IsBare rest m → IsBare text (bare ++ m))
    → FindsText clear rest None → now ≡ bare ++ rest → IsBare text now
bare_last text rest bare now so_far none wrote =
    subst (λ (b : List ℕ). IsBare text b) (sym wrote) (so_far rest (no_color none))
