-- The first of some paths whose file can be read, while they are tried one after the other.
use Rattle.std.proofs.Common.{◌≡◌, ◌∙◌, ◌+◌, ◌<◌, add-one, ap, arith, get_or, length, refl, sym}
use Rattle.std.proofs.Math.ListN.{set}
use Rattle.std.proofs.Math.Seq.{drop-cons}
use Rattle.std.proofs.lemmas.Bool.{and_from, and_parts, cond-true, false≢true}
use Rattle.std.proofs.lemmas.List.{drop-drop, drop-set-lt, map-append, take-append-drop, take_more, take_more_set}
use Rattle.std.proofs.lemmas.List.Elements.{AllZip-push}
use Rattle.std.proofs.lemmas.List.Sums.{take_while-cons}
use Rattle.std.specs.List.{AllZip, list_all}
use Rattle.std.specs.Prelude.{ℕ, suc, zero, drop, map, take, Bool, true, false, cond, not, ◌&&◌, List, [], ◌∷◌, ◌++◌, Option, Some, None, is_some}
use Rattle.ariadne_show.specs.FoundSpans.{Files, held_at}
use Rattle.ariadne_show.specs.ReadFiles.{are_tried, first_read, in_front, is_read, AreKept, IsFirst}

-- the file at a path was tried, and can't be read
abbrev pub is_gone : Files → List ℕ → Bool
is_gone files path = is_some (files path) && not (is_read files path)

-- ---- one path more

is_not : (b : Bool) → not b ≡ true → b ≡ false
is_not true e = cc
is_not false e = refl

not_is : (b : Bool) → b ≡ false → not b ≡ true
not_is true e = cc
not_is false e = refl

-- one that is gone in front of others, of which the first is known
first_behind : (files : Files) (x : List ℕ) (xs : List (List ℕ)) (found : Option (List ℕ)) → is_gone files x ≡ true
    → IsFirst files xs found → IsFirst files (x ∷ xs) found
first_behind files x xs found gone first =
    let parts = and_parts (is_some (files x)) (not (is_read files x)) gone in record {
      tried = ap (are_tried files) (take_while-cons (λ path. not (is_read files path)) x xs ∙ cond-true (not (is_read files x)) (x ∷ in_front files xs) [] parts.1)
          ∙ and_from (is_some (files x)) (are_tried files (in_front files xs)) parts.0 first.tried;
      first = first.first ∙ sym (ap (λ (b : Bool). cond b (Some x) (first_read files xs)) (is_not (is_read files x) parts.1));
    }

-- the first itself
pub first_here : (files : Files) (x : List ℕ) (xs : List (List ℕ)) → is_read files x ≡ true → IsFirst files (x ∷ xs) (Some x)
first_here files x xs read = record {
  tried = ap (are_tried files) (take_while-cons (λ path. not (is_read files path)) x xs
      ∙ ap (λ (b : Bool). cond (not b) (x ∷ in_front files xs) []) read);
  first = sym (cond-true (is_read files x) (Some x) (first_read files xs) read);
}

-- all in front of others are gone
pub first_past : (files : Files) (xs ys : List (List ℕ)) (found : Option (List ℕ)) → list_all (is_gone files) xs ≡ true
    → IsFirst files ys found → IsFirst files (xs ++ ys) found
first_past files [] ys found gone first = first
first_past files (x ∷ xs) ys found gone first =
    let parts = and_parts (is_gone files x) (list_all (is_gone files) xs) gone in
    first_behind files x (xs ++ ys) found parts.0 (first_past files xs ys found parts.1 first)

pub none_first : (files : Files) → IsFirst files [] None
none_first files = record { tried = refl; first = refl }

-- ---- files that are tried meanwhile

-- what was tried stays so
pub kept_on : (a b c : Files) → AreKept a b → AreKept b c → AreKept a c
kept_on a b c first then path some = then path (ap is_some (first path some) ∙ some) ∙ first path some

gone_still : (old new : Files) → AreKept old new → (x : List ℕ) → is_gone old x ≡ true → is_gone new x ≡ true
gone_still old new kept x gone =
    let parts = and_parts (is_some (old x)) (not (is_read old x)) gone in
    rw (kept x parts.0) gone

pub all_gone_still : (old new : Files) → AreKept old new → (xs : List (List ℕ)) → list_all (is_gone old) xs ≡ true
    → list_all (is_gone new) xs ≡ true
all_gone_still old new kept [] gone = refl
all_gone_still old new kept (x ∷ xs) gone =
    let parts = and_parts (is_gone old x) (list_all (is_gone old) xs) gone in
    and_from (is_gone new x) (list_all (is_gone new) xs) (gone_still old new kept x parts.0) (all_gone_still old new kept xs parts.1)

pub all_gone_more : (files : Files) (xs : List (List ℕ)) (x : List ℕ) → list_all (is_gone files) xs ≡ true
    → is_some (files x) ≡ true → is_read files x ≡ false → list_all (is_gone files) (xs ++ x ∷ []) ≡ true
all_gone_more files [] x gone tried unread =
    and_from (is_gone files x) true (and_from (is_some (files x)) (not (is_read files x)) tried (not_is (is_read files x) unread)) refl
all_gone_more files (y ∷ ys) x gone tried unread =
    let parts = and_parts (is_gone files y) (list_all (is_gone files) ys) gone in
    and_from (is_gone files y) (list_all (is_gone files) (ys ++ x ∷ [])) parts.0 (all_gone_more files ys x parts.1 tried unread)

read_some : (files : Files) (x : List ℕ) → is_read files x ≡ true → is_some (files x) ≡ true
read_some files x read = some (files x) read
  where
    some : (o : Option (Option _)) → is_some (held_at (λ path. o) x) ≡ true → is_some o ≡ true
    some None e = absurd (false≢true e)
    some (Some held) e = refl

-- the first path stays the first
first_still_at : (old new : Files) → AreKept old new → (x : List ℕ) (xs : List (List ℕ)) (found : Option (List ℕ)) (read : Bool)
    → is_read old x ≡ read → IsFirst old (x ∷ xs) found → (IsFirst old xs found → IsFirst new xs found) → IsFirst new (x ∷ xs) found
first_still_at old new kept x xs found true read first rest =
    let now : is_read new x ≡ true = rw (kept x (read_some old x read)) read in
    let here : found ≡ Some x = first.first ∙ cond-true (is_read old x) (Some x) (first_read old xs) read in
    rw here (first_here new x xs now)
first_still_at old new kept x xs found false unread first rest =
    let tried : (is_some (old x) && are_tried old (in_front old xs)) ≡ true =
    sym (ap (are_tried old) (take_while-cons (λ path. not (is_read old path)) x xs
    ∙ ap (λ (b : Bool). cond (not b) (x ∷ in_front old xs) []) unread)) ∙ first.tried in
    let parts = and_parts (is_some (old x)) (are_tried old (in_front old xs)) tried in
    let gone : is_gone old x ≡ true = and_from (is_some (old x)) (not (is_read old x)) parts.0 (not_is (is_read old x) unread) in
    first_behind new x xs found (gone_still old new kept x gone) (rest (record {
      tried = parts.1;
      first = first.first ∙ ap (λ (b : Bool). cond b (Some x) (first_read old xs)) unread;
    }))

pub first_still : (old new : Files) → AreKept old new → (xs : List (List ℕ)) (found : Option (List ℕ)) → IsFirst old xs found
    → IsFirst new xs found
first_still old new kept [] found first = record { tried = refl; first = first.first }
first_still old new kept (x ∷ xs) found first =
    first_still_at old new kept x xs found (is_read old x) refl first (first_still old new kept xs found)

-- ---- loops

-- what a function makes of a list, up to an index and behind it
pub map_at : {X Y : Type 0} (f : X → Y) (all : List X) (i : ℕ) (x : X) → i < length all → x ≡ get_or all i x
    → map f all ≡ map f (take i all) ++ f x ∷ map f (drop (suc i) all)
map_at f all i x within is =
    ap (map f) (sym (take-append-drop i all)) ∙ map-append f (take i all) (drop i all)
    ∙ ap (λ t. map f (take i all) ++ map f t) (drop-cons all i x within)
    ∙ ap (λ y. map f (take i all) ++ f y ∷ map f (drop (suc i) all)) (sym is)

pub map_next : {X Y : Type 0} (f : X → Y) (all : List X) (i : ℕ) (x : X) → i < length all → x ≡ get_or all i x
    → map f (take (i + 1) all) ≡ map f (take i all) ++ f x ∷ []
map_next f all i x within is =
    ap (map f) (take_more all i x within) ∙ map-append f (take i all) (get_or all i x ∷ [])
    ∙ ap (λ y. map f (take i all) ++ f y ∷ []) (sym is)

take_next : {X : Type 0} (xs : List X) (i : ℕ) (x : X) (rest : List X) → drop i xs ≡ x ∷ rest → take (suc i) xs ≡ take i xs ++ x ∷ []
take_next xs zero x rest e = ap (take 1) e
take_next [] (suc i) x rest e = absurd (cc e)
take_next (y ∷ xs) (suc i) x rest e = ap (λ t. y ∷ t) (take_next xs i x rest e)

-- one more of a list is changed, of which the rest is as it was
pub zip_more : {X : Type 0} (R : X → X → Type 0) (before now after : List X) (i : ℕ) (x y : X) → i < length now → x ≡ get_or now i x
    → after ≡ set now i y → drop i now ≡ drop i before → AllZip R (take i before) (take i now) → R x y
    → AllZip R (take (i + 1) before) (take (i + 1) after)
zip_more R before now after i x y within is changed rest all one =
    let first : drop i before ≡ x ∷ drop (suc i) now = sym rest ∙ drop-cons now i x within ∙ ap (λ z. z ∷ drop (suc i) now) (sym is) in
    let left : take (i + 1) before ≡ take i before ++ x ∷ [] = rw add-one (take_next before i x (drop (suc i) now) first) in
    let right : take (i + 1) after ≡ take i now ++ y ∷ [] = ap (take (i + 1)) changed ∙ take_more_set now i y within in
    rw (left, right) (AllZip-push R (take i before) (take i now) x y all one)

pub rest_still : {X : Type 0} (before now after : List X) (i : ℕ) (y : X) → after ≡ set now i y → drop i now ≡ drop i before
    → drop (i + 1) after ≡ drop (i + 1) before
rest_still before now after i y changed rest =
    ap (drop (i + 1)) changed ∙ drop-set-lt (i + 1) now i y (omega arith) ∙ sym (drop-drop 1 i now) ∙ ap (drop 1) rest ∙ drop-drop 1 i before

-- what holds of each pair still does
pub zip_still : {A : Type 0} (R S : A → A → Type 0) → ((x y : A) → R x y → S x y) → (xs ys : List A) → AllZip R xs ys → AllZip S xs ys
zip_still R S more [] [] all = tt
zip_still R S more [] (y ∷ ys) all = absurd all
zip_still R S more (x ∷ xs) [] all = absurd all
zip_still R S more (x ∷ xs) (y ∷ ys) all = (more x y all.0, zip_still R S more xs ys all.1)
