-- Pictures in compact form: one cell a gutter column, no blank after the margin, no alternate rows, no tail.
use Rattle.std.specs.Prelude.{◌≡◌, refl, ◌∷◌, [], length}
use Rattle.ariadne_worked.proofs.Sample.{drawn, picture, rows, one, label, compact_config, configured, texts}

compact_label :
    picture (one "ab") (configured compact_config (label 0 2 "x" ∷ [])) ≡ rows (
    "Error: " ∷
    "   ,-[ <unknown>:1:1 ]" ∷
    " 1 |ab" ∷
    "   | `- x" ∷ [])
unfolding drawn
compact_label = refl

-- 48 bytes in all
compact_label_bytes :
    length (picture (one "ab") (configured compact_config (label 0 2 "x" ∷ []))) ≡ 48
unfolding drawn
compact_label_bytes = refl

-- a run of hidden lines has no row, unless it lies inside a label
compact_hidden_lines :
    picture (one "a\nb\nc") (configured compact_config (label 0 1 "x" ∷ label 4 5 "y" ∷ [])) ≡ rows (
    "Error: " ∷
    "   ,-[ <unknown>:1:1 ]" ∷
    " 1 |a" ∷
    "   |`- x" ∷
    " 3 |c" ∷
    "   |`- y" ∷ [])
unfolding drawn
compact_hidden_lines = refl

compact_gap :
    picture (one "a\nb\nc") (configured compact_config (label 0 5 "m" ∷ [])) ≡ rows (
    "Error: " ∷
    "   ,-[ <unknown>:1:1 ]" ∷
    " 1 |,>a" ∷
    "   :: " ∷
    " 3 ||>c" ∷
    "   |`--- m" ∷ [])
unfolding drawn
compact_gap = refl

-- neither has a blank row before it
compact_helps_and_notes :
    picture (one "ab") (record (configured compact_config (label 0 2 "x" ∷ []))
    { helps = texts ("h\ni" ∷ []); notes = texts ("n" ∷ "" ∷ []) }) ≡ rows (
    "Error: " ∷
    "   ,-[ <unknown>:1:1 ]" ∷
    " 1 |ab" ∷
    "   | `- x" ∷
    "   |Help: h" ∷
    "   |      i" ∷
    "   |Note 1: n" ∷ [])
unfolding drawn
compact_helps_and_notes = refl
