-- The rows of a message: one more line.
use Rattle.std.proofs.Common.{◌≡◌, ◌∙◌, ℕ, ◌+◌, ◌<◌, List, [], ◌∷◌, ◌++◌, get_or, length, map, take, sym, ap, append-nil}
use Rattle.std.proofs.lemmas.List.{map-append, map_more}
use Rattle.std.specs.Borrow.{Bor}
use Rattle.std.specs.List.{cons_option, flat_map, join_by}
use Rattle.std.specs.Prelude.{Option, Some, None, option_map}
use Rattle.ariadne_matchers.specs.Catches.{caught_at, Catch}
use Rattle.ariadne_matchers.specs.MatchedMessages.{message_row, message_rows}
use Rattle.ariadne_matchers.specs.declared.caught.Caught.{Caught}

-- ---- rows that are joined

flat_seen : (f : List ℕ → List ℕ) (rows : List (Bor (List ℕ))) → flat_map (λ row. f row.now) rows ≡ flat_map f (map (λ row. row.now) rows)
flat_seen f [] = λ i. []
flat_seen f (row ∷ rows) = ap (λ (text : List ℕ). f row.now ++ text) (flat_seen f rows)

pub join_seen : (join : List ℕ) (rows : List (Bor (List ℕ)))
    → join_by (λ row. row.now) join rows ≡ join_by (λ row. row) join (map (λ row. row.now) rows)
join_seen join [] = λ i. []
join_seen join (row ∷ rows) = ap (λ (text : List ℕ). row.now ++ text) (flat_seen (λ text. join ++ text) rows)

-- ---- one more

cons_front : {A : Type 0} (o : Option A) (xs ys : List A) → cons_option o (xs ++ ys) ≡ cons_option o xs ++ ys
cons_front None xs ys = λ i. xs ++ ys
cons_front (Some x) xs ys = λ i. x ∷ (xs ++ ys)

rows_push : (lines : List Catch) (caught : Catch) → message_rows (lines ++ caught ∷ []) ≡ message_rows lines ++ cons_option (message_row caught) []
rows_push [] caught = λ i. cons_option (message_row caught) []
rows_push (line ∷ lines) caught =
    ap (cons_option (message_row line)) (rows_push lines caught) ∙ cons_front (message_row line) (message_rows lines) (cons_option (message_row caught) [])

module _ (lines : List Caught) (i : ℕ) (d : Caught) (within : i < length lines) where
  -- a line that has none
  pub rows_same : None ≡ message_row (caught_at (get_or lines i d)) → message_rows (map caught_at (take (i + 1) lines)) ≡ message_rows (map caught_at (take i lines))
  rows_same none =
      ap message_rows (map_more caught_at lines i d within) ∙ rows_push (map caught_at (take i lines)) (caught_at (get_or lines i d))
      ∙ ap (λ (o : Option (List ℕ)). message_rows (map caught_at (take i lines)) ++ cons_option o []) (sym none)
      ∙ append-nil (message_rows (map caught_at (take i lines)))

  -- a line that has one
  pub rows_more : (row : List ℕ) → Some row ≡ message_row (caught_at (get_or lines i d))
      → message_rows (map caught_at (take (i + 1) lines)) ≡ message_rows (map caught_at (take i lines)) ++ row ∷ []
  rows_more row some =
      ap message_rows (map_more caught_at lines i d within) ∙ rows_push (map caught_at (take i lines)) (caught_at (get_or lines i d))
      ∙ ap (λ (o : Option (List ℕ)). message_rows (map caught_at (take i lines)) ++ cons_option o []) (sym some)

  -- what is held of them, where the row of one more is pushed
  pub row_pushed : (rows pushed : List (Bor (List ℕ))) (row : Bor (List ℕ)) (found : Option (Bor (List ℕ)))
      → found ≡ Some row → pushed ≡ rows ++ row ∷ []
      → option_map (λ row. row.now) found ≡ message_row (caught_at (get_or lines i d))
      → map (λ row. row.now) rows ≡ message_rows (map caught_at (take i lines))
      → map (λ row. row.now) pushed ≡ message_rows (map caught_at (take (i + 1) lines))
  row_pushed rows pushed row found is more told so_far =
      ap (map (λ (row : Bor (List ℕ)). row.now)) more ∙ map-append (λ (row : Bor (List ℕ)). row.now) rows (row ∷ [])
      ∙ ap (λ (xs : List (List ℕ)). xs ++ row.now ∷ []) so_far
      ∙ sym (rows_more row.now (sym (ap (option_map (λ (row : Bor (List ℕ)). row.now)) is) ∙ told))

  -- and where it has none
  pub row_missing : (rows : List (Bor (List ℕ))) (found : Option (Bor (List ℕ)))
      → found ≡ None → option_map (λ row. row.now) found ≡ message_row (caught_at (get_or lines i d))
      → map (λ row. row.now) rows ≡ message_rows (map caught_at (take i lines))
      → map (λ row. row.now) rows ≡ message_rows (map caught_at (take (i + 1) lines))
  row_missing rows found is told so_far =
      so_far ∙ sym (rows_same (sym (ap (option_map (λ (row : Bor (List ℕ)). row.now)) is) ∙ told))
