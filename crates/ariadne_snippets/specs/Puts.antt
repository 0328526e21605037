-- Texts that have pieces more than others.
use Rattle.std.specs.Prelude.{ℕ, ◌≡◌, List, ◌++◌}
use Rattle.ariadne_snippets.specs.declared.put.TwoPieces.{TwoPieces}

-- a text is a source with a piece put in behind its front
pub record IsMoreThan (text source front piece : List ℕ) : Type 0 where
  pub rest : List ℕ
  pub without : source ≡ front ++ rest
  pub with_piece : text ≡ front ++ piece ++ rest

-- and with two pieces
pub record IsMoreByTwo (text source : List ℕ) (two : TwoPieces) : Type 0 where
  pub rest : List ℕ
  pub without : source ≡ two.front.now ++ two.middle.now ++ rest
  pub with_pieces : text ≡ two.front.now ++ two.first.now ++ two.middle.now ++ two.second.now ++ rest

-- two texts have one end behind these
pub record HaveOneEnd (text source inner between : List ℕ) : Type 0 where
  pub end : List ℕ
  pub of_text : text ≡ inner ++ end
  pub of_source : source ≡ between ++ end
