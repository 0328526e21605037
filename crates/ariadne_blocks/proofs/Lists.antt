-- Lists of what is read of other lists, and what is written in them.
use Rattle.std.proofs.Common.{◌≡◌, ◌∙◌, ℕ, suc, zero, ◌+◌, ◌<◌, ◌≤◌, List, [], ◌∷◌, ◌++◌, length, get_or, set, take, drop, refl, ap, sym, arith, append-nil, append_assoc}
use Rattle.std.specs.Prelude.{Bool, true, false, cond, ◌||◌, map, slice_get, Option, None, Some, option_map}
use Rattle.std.specs.List.{find, fold, list_any}
use Rattle.std.proofs.lemmas.Option.{slice_get-map}
use Rattle.std.proofs.lemmas.List.{get_or_default, drop-set-lt, drop_all, drop_more, length-map, map-append, take_all, take_more, take_more_set}

-- an element of what is read of a list
pub get_mapped : {A B : Type 0} (f : A → B) (xs : List A) (i : ℕ) (x : A) → i < length xs → x ≡ get_or xs i x
    → slice_get (map f xs) i ≡ Some (f x)
get_mapped f [] i x h is = absurd (omega arith)
get_mapped f (y ∷ xs) zero x h is = ap (λ z. Some (f z)) (sym is)
get_mapped f (y ∷ xs) (suc i) x h is = get_mapped f xs i x (omega arith) is

-- what is read twice is the same
pub same_read : {A : Type 0} (xs : List A) (i : ℕ) (x y : A) → i < length xs → x ≡ get_or xs i x → y ≡ get_or xs i y → x ≡ y
same_read xs i x y h is so = is ∙ get_or_default xs i x y h ∙ sym so

-- there is none past the end
pub none_mapped : {A B : Type 0} (f : A → B) (xs : List A) (i : ℕ) → length xs ≤ i
    → slice_get (map f xs) i ≡ None
none_mapped f [] i h = refl
none_mapped f (y ∷ xs) zero h = absurd (omega arith)
none_mapped f (y ∷ xs) (suc i) h = none_mapped f xs i (omega arith)

-- the first
pub first_mapped : {A B : Type 0} (f : A → B) (xs : List A)
    → slice_get (map f xs) 0 ≡ option_map f (slice_get xs 0)
first_mapped f [] = refl
first_mapped f (x ∷ xs) = refl

-- the one at a span
pub span_mapped : {A B : Type 0} (f : A → B) (xs : List A) (i : ℕ)
    → slice_get (map f xs) i ≡ option_map f (slice_get xs i)
span_mapped f xs i = slice_get-map f xs i

-- how many there are
pub length_mapped : {A B : Type 0} (f : A → B) (xs : List A) → length (map f xs) ≡ length xs
length_mapped f xs = length-map xs f

-- one more behind them
pub pushed : {A B : Type 0} (f : A → B) (xs all : List A) (x : A) → all ≡ xs ++ x ∷ []
    → map f all ≡ map f xs ++ f x ∷ []
pushed f xs all x more = ap (map f) more ∙ map-append f xs (x ∷ [])

-- a fold over one more
pub fold_more : {A B : Type 0} (f : B → A → B) (a : B) (xs : List A) (x : A)
    → fold f a (xs ++ x ∷ []) ≡ f (fold f a xs) x
fold_more f a [] x = refl
fold_more f a (y ∷ xs) x = fold_more f (f a y) xs x

-- a fold over the first elements, and one more
pub fold_step : {A B : Type 0} (f : B → A → B) (a : B) (xs : List A) (i : ℕ) (x : A) → i < length xs → x ≡ get_or xs i x
    → fold f a (take (i + 1) xs) ≡ f (fold f a (take i xs)) x
fold_step f a xs i x h is =
    ap (fold f a) (take_more xs i x h) ∙ ap (λ y. fold f a (take i xs ++ y ∷ [])) (sym is)
    ∙ fold_more f a (take i xs) x

-- some elements, and one more
pub take_step : {A B : Type 0} (f : A → B) (xs : List A) (i : ℕ) (x : A) → i < length xs → x ≡ get_or xs i x
    → map f (take (i + 1) xs) ≡ map f (take i xs) ++ f x ∷ []
take_step f xs i x h is =
    pushed f (take i xs) (take (i + 1) xs) x (take_more xs i x h ∙ ap (λ y. take i xs ++ y ∷ []) (sym is))

-- ---- lists that are written one element after the other: those in front as they are, and what the rest will be

pub written : {A B : Type 0} (f : A → B) (F G : List B → List B) (xs : List A) (i : ℕ) (x y : A) → i < length xs
    → x ≡ get_or xs i x → F (f x ∷ map f (drop (i + 1) xs)) ≡ f y ∷ G (map f (drop (i + 1) xs))
    → map f (take (i + 1) (set xs i y)) ++ G (map f (drop (i + 1) (set xs i y)))
    ≡ map f (take i xs) ++ F (map f (drop i xs))
written f F G xs i x y h is step =
    let t : take (i + 1) (set xs i y) ≡ take i xs ++ y ∷ [] = take_more_set xs i y h in
    let d : drop (i + 1) (set xs i y) ≡ drop (i + 1) xs = drop-set-lt (i + 1) xs i y (omega arith) in
    let m : drop i xs ≡ x ∷ drop (i + 1) xs =
    drop_more xs i x h ∙ ap (λ z. z ∷ drop (i + 1) xs) (sym is) in
    ap (λ l. map f l ++ G (map f (drop (i + 1) (set xs i y)))) t
    ∙ ap (λ l. map f (take i xs ++ y ∷ []) ++ G (map f l)) d
    ∙ ap (λ l. l ++ G (map f (drop (i + 1) xs))) (map-append f (take i xs) (y ∷ []))
    ∙ append_assoc (map f (take i xs)) (f y ∷ []) (G (map f (drop (i + 1) xs)))
    ∙ ap (λ l. map f (take i xs) ++ l) (sym step)
    ∙ ap (λ l. map f (take i xs) ++ F (map f l)) (sym m)

-- all are written at the end
pub written_all : {A B : Type 0} (f : A → B) (F : List B → List B) (xs : List A) (i : ℕ) → length xs ≤ i
    → F [] ≡ [] → map f (take i xs) ++ F (map f (drop i xs)) ≡ map f xs
written_all f F xs i h none =
    ap (λ l. map f l ++ F (map f (drop i xs))) (take_all i xs h)
    ∙ ap (λ l. map f xs ++ F (map f l)) (drop_all i xs h)
    ∙ ap (λ l. map f xs ++ l) none ∙ append-nil (map f xs)

-- some behind others, and one more
pub more_behind : {A : Type 0} (first now pushed some more : List A) (x : A) → now ≡ first ++ some → pushed ≡ now ++ x ∷ []
    → more ≡ some ++ x ∷ [] → pushed ≡ first ++ more
more_behind first now pushed some more x is push step =
    push ∙ ap (λ l. l ++ x ∷ []) is ∙ append_assoc first some (x ∷ []) ∙ ap (λ l. first ++ l) (sym step)

-- ---- tests of what is read of a list

pub any_mapped : {A B : Type 0} (f : A → B) (test : B → Bool) (xs : List A)
    → list_any (λ x. test (f x)) xs ≡ list_any test (map f xs)
any_mapped f test [] = refl
any_mapped f test (x ∷ xs) = ap (λ b. test (f x) || b) (any_mapped f test xs)

found_by : {A B : Type 0} (b : Bool) (f : A → B) (x : A) (rest : Option B) (others : Option A)
    → rest ≡ option_map f others → cond b (Some (f x)) rest ≡ option_map f (cond b (Some x) others)
found_by true f x rest others so_on = refl
found_by false f x rest others so_on = so_on

pub find_mapped : {A B : Type 0} (f : A → B) (test : B → Bool) (xs : List A)
    → find test (map f xs) ≡ option_map f (find (λ x. test (f x)) xs)
find_mapped f test [] = refl
find_mapped f test (x ∷ xs) =
    found_by (test (f x)) f x (find test (map f xs)) (find (λ y. test (f y)) xs) (find_mapped f test xs)
