-- Rows make the lines of the edited text of those of the source.
use Rattle.std.proofs.Common.{◌≡◌, ◌∙◌, ap, refl, ℕ, suc, ◌+◌, ◌<◌, List, [], ◌∷◌, map, length, get_or, arith}
use Rattle.std.specs.List.{flat_map, range_with_len, AllByRecursion}
use Rattle.ariadne_base.specs.Locations.{upto, line_text}
use Rattle.ariadne_edits.specs.declared.rows.Row.{Row}
use Rattle.ariadne_edits.specs.declared.rows.Row.TheVariants.{Kept, KeptLast, Removed, Added}
use Rattle.ariadne_edits.specs.SuggestionRows.{lines_after, IsSame, Tell, patched, patched_line, restored}

-- lines by their numbers, behind as many others
by_number : (g : ℕ → List ℕ) (xs : List (List ℕ)) (a : ℕ) → ((i : ℕ) → i < length xs → g (a + i) ≡ get_or xs i [])
    → map g (range_with_len a (length xs)) ≡ xs
by_number g [] a h = refl
by_number g (x ∷ xs) a h =
    let head : g a ≡ x = ap g (let e : a ≡ a + 0 = omega arith in e) ∙ h 0 (omega arith) in
    ap (λ y. y ∷ map g (range_with_len (a + 1) (length xs))) head
    ∙ ap (λ ys. x ∷ ys)
    (by_number g xs (a + 1) (λ i lt. ap g (let e : a + 1 + i ≡ a + suc i = omega arith in e) ∙ h (suc i) (omega arith)))

lines_by_number : (ls : List (List ℕ)) → map (line_text ls) (upto (length ls)) ≡ ls
lines_by_number ls =
    by_number (line_text ls) ls 0 (λ i lt. ap (line_text ls) (let e : 0 + i ≡ i = omega arith in e))

-- a kept line is that of the edited text
patched_are : (old new : List (List ℕ)) (rows : List Row) → AllByRecursion (IsSame old new) rows
    → patched old new rows ≡ map (line_text new) (flat_map lines_after rows)
unfolding patched
patched_are old new [] a = refl
patched_are old new (Kept i j ∷ rows) a =
    ap (λ x. x ∷ flat_map (patched_line old new) rows) a.0 ∙ ap (λ xs. line_text new j ∷ xs) (patched_are old new rows a.1)
patched_are old new (KeptLast i j ∷ rows) a = ap (λ xs. line_text new j ∷ xs) (patched_are old new rows a.1)
patched_are old new (Removed i b ∷ rows) a = patched_are old new rows a.1
patched_are old new (Added j b ∷ rows) a = ap (λ xs. line_text new j ∷ xs) (patched_are old new rows a.1)

pub makes_edited : (old new : List (List ℕ)) (rows : List Row) → Tell old new rows → patched old new rows ≡ new
makes_edited old new rows t = patched_are old new rows t.same ∙ ap (map (line_text new)) t.after ∙ lines_by_number new

pub has_source : (old new : List (List ℕ)) (rows : List Row) → Tell old new rows → restored old rows ≡ old
unfolding restored
has_source old new rows t = ap (map (line_text old)) t.before ∙ lines_by_number old
