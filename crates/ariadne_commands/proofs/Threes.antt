-- Labels are read from three words after three words.
use Rattle.std.proofs.Common.{◌≡◌, ◌<◌, ◌≤◌, String, Global, arith, sym, refl, ap}
use Rattle.std.specs.Prelude.{List, [], ◌∷◌, ◌++◌, length, map, option_map, Option, Some, None, slice_index_or, string_bytes}
use Rattle.std.proofs.lemmas.List.{append_assoc}
use Rattle.ariadne_commands.specs.Words.{AskingLabel, label_and, label_of, labels_of}

-- behind no labels come the others
pub none_before : (asks : Option (List AskingLabel)) → asks ≡ option_map (λ labels. [] ++ labels) asks
none_before (Some labels) = refl
none_before None = refl

-- a label more
pub label_more : (so_far : List AskingLabel) (label : AskingLabel) (asks : Option (List AskingLabel))
    → option_map (λ labels. so_far ++ labels) (label_and (Some label) asks) ≡ option_map (λ labels. (so_far ++ label ∷ []) ++ labels) asks
label_more so_far label (Some labels) = ap Some (sym (append_assoc so_far (label ∷ []) labels))
label_more so_far label None = refl

-- a list of three is its elements
three_items : {X : Type 0} (xs : List X) (a b c : X) → 3 ≤ length xs → length xs < 4
    → a ≡ slice_index_or xs 0 a → b ≡ slice_index_or xs 1 b → c ≡ slice_index_or xs 2 c → xs ≡ a ∷ b ∷ c ∷ []
three_items [] a b c long short first second third = let none : ⊥ = omega (arith, long) in elim none [ ]
three_items (x ∷ []) a b c long short first second third = let none : ⊥ = omega (arith, long) in elim none [ ]
three_items (x ∷ y ∷ []) a b c long short first second third = let none : ⊥ = omega (arith, long) in elim none [ ]
three_items (x ∷ y ∷ z ∷ []) a b c long short first second third = rw (first, second, third) refl
three_items (x ∷ y ∷ z ∷ w ∷ xs) a b c long short first second third = let none : ⊥ = omega (arith, short) in elim none [ ]

-- what three words and those behind them ask for
pub three_ask : (rest three next : List (String Global)) (start end text : String Global)
    → 3 ≤ length three → length three < 4
    → start ≡ slice_index_or three 0 start → end ≡ slice_index_or three 1 end → text ≡ slice_index_or three 2 text
    → rest ≡ three ++ next
    → labels_of (map string_bytes rest)
    ≡ label_and (label_of (string_bytes start) (string_bytes end) (string_bytes text)) (labels_of (map string_bytes next))
three_ask rest three next start end text long short first second third cut =
    let taken = three_items three start end text long short first second third in rw (cut, taken) refl

-- one word or two ask for nothing
pub few_ask : (rest : List (String Global)) → 0 < length rest → length rest < 3 → labels_of (map string_bytes rest) ≡ None
few_ask [] some few = let none : ⊥ = omega (arith, some) in elim none [ ]
few_ask (a ∷ []) some few = refl
few_ask (a ∷ b ∷ []) some few = refl
few_ask (a ∷ b ∷ c ∷ rest) some few = let none : ⊥ = omega (arith, few) in elim none [ ]
