-- The labels that may colour the characters of a line: those that touch it, by rising numbers.
use Rattle.std.proofs.Common.{◌≡◌, ◌∙◌, ℕ, suc, ◌+◌, ◌<◌, ◌≤◌, Bool, false, ◌==◌, ◌&&◌, List, [], ◌∷◌, length, map, filter, refl, sym, ap, subst}
use Rattle.std.proofs.Common.{arith, Some}
use Rattle.std.specs.Prelude.{slice_get}
use Rattle.std.specs.List.{All, AllByRecursion, enumerate_from, list_any}
use Rattle.std.specs.List.Sorted.{IsStrictlyIncreasing}
use Rattle.std.specs.Char.{is_whitespace}
use Rattle.std.specs.Str.{drop_trailing_whitespace}
use Rattle.std.proofs.lemmas.Bool.{cond_both, eq-eqb, true≢false}
use Rattle.std.proofs.lemmas.List.Elements.{All-from_recursion}
use Rattle.std.proofs.lemmas.Option.{slice_get_within}
use Rattle.ariadne_base.specs.Locations.{line_text}
use Rattle.ariadne_picture.specs.declared.label_info.LabelInfo.{LabelInfo}
use Rattle.ariadne_picture.specs.Columns.{layout_of, shown}
use Rattle.ariadne_picture.specs.Ranks.{Sheet, multi_line_labels}
use Rattle.ariadne_picture.specs.Strokes.{holds}
use Rattle.ariadne_picture.proofs.Lists.Elements.{Has, all-numbered, list_any-true}
use Rattle.ariadne_picture.proofs.Lists.ListFacts.{Increasing, all-filter, all-map, all-weaker, increasing-pairs}
use Rattle.ariadne_layout.specs.SnippetLabels.{HoldersTouch, touches, touching}
use Rattle.ariadne_layout.proofs.Insides.{left-out}

-- the numbers that a filter keeps of an enumerated list are at least the first, and each is below the next
kept-rise : {X : Type 0} (p : ℕ × X → Bool) (n : ℕ) (xs : List X)
    → AllByRecursion (λ i. n ≤ i) (map (λ e. e.0) (filter p (enumerate_from n xs)))
    × Increasing (λ i j. i < j) (map (λ e. e.0) (filter p (enumerate_from n xs)))
kept-rise p n [] = (tt, tt)
kept-rise p n (x ∷ xs) =
    let ns = map (λ (e : ℕ × _). e.0) (filter p (enumerate_from (n + 1) xs)) in
    let rest = kept-rise p (n + 1) xs in
    let past : AllByRecursion (λ i. n < i) ns = all-weaker (λ i. n + 1 ≤ i) (λ i. n < i) ns (λ i h. omega arith) rest.0 in
    let from : AllByRecursion (λ i. n ≤ i) ns = all-weaker (λ i. n + 1 ≤ i) (λ i. n ≤ i) ns (λ i h. omega arith) rest.0 in
    cond_both (p (n, x)) ((n, x) ∷ filter p (enumerate_from (n + 1) xs)) (filter p (enumerate_from (n + 1) xs))
    (λ es. AllByRecursion (λ i. n ≤ i) (map (λ (e : ℕ × _). e.0) es) × Increasing (λ i j. i < j) (map (λ (e : ℕ × _). e.0) es))
    (λ _. ((omega arith, from), (past, rest.1))) (λ _. (from, rest.1))

-- no more characters are shown than the line has
shown-shorter : (cs : List ℕ) → length (drop_trailing_whitespace cs) ≤ length cs
shown-shorter [] = omega arith
shown-shorter (c ∷ cs) =
    let more = shown-shorter cs in
    cond_both (is_whitespace c && (length (drop_trailing_whitespace cs) == 0)) [] (c ∷ drop_trailing_whitespace cs) (λ t. length t ≤ suc (length cs))
    (λ _. omega arith) (λ _. omega arith)

-- the numbers of the labels that touch a line are numbers of multi-line labels
touching-within : (labels : List LabelInfo) (l : ℕ) → AllByRecursion (λ i. i < length (multi_line_labels labels)) (touching labels l)
unfolding touching
touching-within labels l =
    let longs : List LabelInfo = multi_line_labels labels in
    all-map (λ i. i < length longs) (λ (e : ℕ × LabelInfo). e.0) (filter (λ (e : ℕ × LabelInfo). touches l e.1) (enumerate_from 0 longs))
    (all-filter (λ (e : ℕ × LabelInfo). e.0 < length longs) (λ e. touches l e.1) (enumerate_from 0 longs)
    (all-numbered (λ (e : ℕ × LabelInfo). e.0 < length longs) longs (λ k a there. slice_get_within longs k a there)))

-- they rise
touching-rise : (labels : List LabelInfo) (l : ℕ) → IsStrictlyIncreasing (touching labels l)
unfolding touching
touching-rise labels l = λ k less.
    increasing-pairs (λ i j. i < j) (touching labels l) (kept-rise (λ (e : ℕ × LabelInfo). touches l e.1) 0 (multi_line_labels labels)).1 k (k + 1) 0
    (omega arith) less

module _ (s : Sheet) (l : ℕ) (touch : HoldersTouch s l) (multi : List LabelInfo) (numbers : List ℕ)
    (multi-is : multi ≡ multi_line_labels s.labels) (numbers-are : numbers ≡ touching s.labels l) where
  -- each is the number of a label
  pub numbers-within : All (λ i. i < length multi) numbers
  numbers-within =
      subst (λ ns. All (λ i. i < length multi) ns) (sym numbers-are)
      (All-from_recursion (λ i. i < length multi) (touching s.labels l)
      (subst (λ ls. AllByRecursion (λ i. i < length ls) (touching s.labels l)) (sym multi-is) (touching-within s.labels l)))

  -- they rise
  pub numbers-strict : IsStrictlyIncreasing numbers
  numbers-strict = subst IsStrictlyIncreasing (sym numbers-are) (touching-rise s.labels l)

  -- the others hold no shown character
  pub others-hold-none : (i : ℕ) (a : LabelInfo) → slice_get multi i ≡ Some a → list_any (λ j. j == i) numbers ≡ false
      → (k : ℕ) → k < length (shown (layout_of s l)) → holds a ((layout_of s l).offset + k) ≡ false
  unfolding shown layout_of
  others-hold-none i a there out k less =
      let short = shown-shorter (line_text s.lines l) in
      let not : Has (touching s.labels l) i → ⊥ = λ has.
      true≢false (sym (list_any-true (λ j. j == i) (touching s.labels l) has.place i has.there (eq-eqb i i refl))
      ∙ ap (list_any (λ j. j == i)) (sym numbers-are) ∙ out) in
      left-out s l touch i a (ap (λ ls. slice_get ls i) (sym multi-is) ∙ there) not k (omega arith)
