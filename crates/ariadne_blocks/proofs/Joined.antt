-- A message that goes on with lines, one after the other.
use Rattle.std.proofs.Common.{◌≡◌, ◌∙◌, ℕ, ◌<◌, List, [], ◌∷◌, ◌++◌, length, refl, ap, sym, arith}
use Rattle.ariadne_blocks.specs.Messages.{joined, message_with, parted, with_lines}
use Rattle.ariadne_blocks.specs.Telling.{Telling}
use Rattle.ariadne_blocks.proofs.Lists.{fold_more}

-- one line more
pub joined_next : (first now more line : List ℕ) (lines all : List (List ℕ)) → now ≡ message_with first lines
    → more ≡ joined now line → all ≡ lines ++ line ∷ [] → more ≡ message_with first all
joined_next first now more line lines all so_far push step =
    push ∙ ap (λ m. joined m line) so_far ∙ sym (fold_more joined first lines line)
    ∙ ap (message_with first) (sym step)

-- a diagnostic with some lines, and with none
pub with_some : (texts : List (List ℕ)) (parsed : Telling) → 0 < length texts
    → parted (record parsed { message = message_with parsed.message texts }) ≡ with_lines texts parsed
with_some [] parsed h = absurd (omega arith)
with_some (text ∷ texts) parsed h = refl

pub with_none : (texts : List (List ℕ)) (parsed : Telling) → length texts ≡ 0 → parsed ≡ with_lines texts parsed
with_none [] parsed h = refl
with_none (text ∷ texts) parsed h = absurd (omega arith)
