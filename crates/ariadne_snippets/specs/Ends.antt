-- Ends of texts.
use Rattle.std.specs.Prelude.{ℕ, ◌≡◌, List, drop}

-- a text is the end of another
pub record IsEnd (text line : List ℕ) : Type 0 where
  pub count : ℕ
  pub is_rest : text ≡ drop count line
