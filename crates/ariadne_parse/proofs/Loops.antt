-- Loops over a list, whose invariant says that what is made so far and what is still to come are all.
use Rattle.std.proofs.Common.{◌≡◌, ◌<◌, ◌≤◌, ◌+◌, ◌∙◌, ℕ, List, [], ◌∷◌, ◌++◌, length, get_or, drop, ap, refl, sym, append-nil, append_assoc}
use Rattle.std.proofs.lemmas.List.{at_drop_all, at_drop_more, map-append}
use Rattle.std.specs.Prelude.{map, option_map, Option, None, Some}
use Rattle.std.specs.List.{cons_option}
use Rattle.std.specs.Option.{option_to_list}

-- what the next item says is to come first
pub next_first : {X Y : Type 0} (F : List X → Y) (xs : List X) (i : ℕ) (x : X) → i < length xs → x ≡ get_or xs i x
    → F (drop i xs) ≡ F (x ∷ drop (i + 1) xs)
next_first F xs i x within at = at_drop_more F xs i x within ∙ ap (λ y. F (y ∷ drop (i + 1) xs)) (sym at)

-- nothing is to come
pub all_made : {X B : Type 0} (rest : List X → List B) (xs : List X) (i : ℕ) (made all : List B) → length xs ≤ i → rest [] ≡ []
    → made ++ rest (drop i xs) ≡ all → made ≡ all
all_made rest xs i made all end none is =
    sym (ap (λ l. made ++ l) (at_drop_all rest xs i end ∙ none) ∙ append-nil made) ∙ is

-- one item more is made, and what follows it is to come
pub one_more : {X B : Type 0} (rest after : List X → List B) (xs : List X) (i : ℕ) (x : X) (made step new all : List B)
    → i < length xs → x ≡ get_or xs i x → rest (x ∷ drop (i + 1) xs) ≡ step ++ after (drop (i + 1) xs) → new ≡ made ++ step
    → made ++ rest (drop i xs) ≡ all → new ++ after (drop (i + 1) xs) ≡ all
one_more rest after xs i x made step new all within at next grown is =
    ap (λ l. l ++ after (drop (i + 1) xs)) grown
    ∙ append_assoc made step (after (drop (i + 1) xs))
    ∙ ap (λ l. made ++ l) (sym (next_first rest xs i x within at ∙ next))
    ∙ is

-- an item may make something
cons_to_list : {B : Type 0} (o : Option B) (l : List B) → cons_option o l ≡ option_to_list o ++ l
cons_to_list None l = refl
cons_to_list (Some b) l = refl

map_to_list : {A B : Type 0} (f : A → B) (items : List A) (o : Option A)
    → map f (items ++ option_to_list o) ≡ map f items ++ option_to_list (option_map f o)
map_to_list f items None = map-append f items []
map_to_list f items (Some a) = map-append f items (a ∷ [])

pub grown_by : {A B : Type 0} (f : A → B) (items new : List A) (o : Option A) (step : Option B) → new ≡ items ++ option_to_list o
    → option_map f o ≡ step → map f new ≡ map f items ++ option_to_list step
grown_by f items new o step grown made =
    ap (map f) grown ∙ map_to_list f items o ∙ ap (λ s. map f items ++ option_to_list s) made

pub one_perhaps : {X A B : Type 0} (rest after : List X → List B) (f : A → B) (xs : List X) (i : ℕ) (x : X) (items new : List A) (o : Option A)
    (step : Option B) (all : List B) → i < length xs → x ≡ get_or xs i x
    → rest (x ∷ drop (i + 1) xs) ≡ cons_option step (after (drop (i + 1) xs)) → option_map f o ≡ step → new ≡ items ++ option_to_list o
    → map f items ++ rest (drop i xs) ≡ all → map f new ++ after (drop (i + 1) xs) ≡ all
one_perhaps rest after f xs i x items new o step all within at next made grown is =
    one_more rest after xs i x (map f items) (option_to_list step) (map f new) all within at
    (next ∙ cons_to_list step (after (drop (i + 1) xs)))
    (grown_by f items new o step grown made) is
