-- What lines caught last: what one more line adds.
use Rattle.std.proofs.Common.{◌≡◌, ℕ, ◌+◌, ◌<◌, ◌≤◌, Bool, true, false, cond, ◌||◌, List, [], ◌∷◌, ◌++◌, drop, get_or, length, map, take, refl, sym, ap, ap₂, ◌∙◌, arith}
use Rattle.std.proofs.lemmas.List.{at_drop_more, drop-append-le, drop-take, length-take-le, map-append, map_more, take_more}
use Rattle.std.specs.List.{list_any}
use Rattle.std.specs.Option.{option_or}
use Rattle.std.specs.Prelude.{Option, Some, None, option_map}
use Rattle.ariadne_matchers.specs.Catches.{caught_at, cut_told, Catch, Cut}
use Rattle.ariadne_matchers.specs.Lasts.{cut_in, last_of, names_place, place_lines}
use Rattle.ariadne_matchers.specs.declared.caught.Caught.{Caught}
use Rattle.ariadne_matchers.specs.declared.caught.Piece.{Piece}
use Rattle.ariadne_matchers.specs.declared.lasts.Group.{Group}

-- ---- one of two

or_none : {A : Type 0} (o : Option A) → option_or o None ≡ o
or_none None = refl
or_none (Some x) = refl

or_assoc : {A : Type 0} (o p q : Option A) → option_or (option_or o p) q ≡ option_or o (option_or p q)
or_assoc None p q = refl
or_assoc (Some x) p q = refl

pub or_seen : {A B : Type 0} (f : A → B) (o p : Option A) → option_map f (option_or o p) ≡ option_or (option_map f o) (option_map f p)
or_seen f None p = refl
or_seen f (Some x) p = refl

-- ---- one of all

pub any_seen : {A B : Type 0} (p : B → Bool) (f : A → B) (xs : List A) → list_any (λ x. p (f x)) xs ≡ list_any p (map f xs)
any_seen p f [] = refl
any_seen p f (x ∷ xs) = ap (λ (b : Bool). p (f x) || b) (any_seen p f xs)

-- ---- the last

pub last_push : (group : Group) (lines : List Catch) (caught : Catch)
    → last_of group (lines ++ caught ∷ []) ≡ option_or (cut_in group caught) (last_of group lines)
last_push group [] caught = sym (or_none (cut_in group caught))
last_push group (line ∷ lines) caught =
    ap (λ (o : Option Cut). option_or o (cut_in group line)) (last_push group lines caught)
    ∙ or_assoc (cut_in group caught) (last_of group lines) (cut_in group line)

-- ---- the place

any_step : (b c : Bool) → c ≡ true → (b || c) ≡ true
any_step true c h = refl
any_step false c h = h

any_last : {A : Type 0} (p : A → Bool) (xs : List A) (x : A) → p x ≡ true → list_any p (xs ++ x ∷ []) ≡ true
any_last p [] x e = rw e refl
any_last p (y ∷ xs) x e = any_step (p y) (list_any p (xs ++ x ∷ [])) (any_last p xs x e)

any_front : {A : Type 0} (p : A → Bool) (xs : List A) (x : A) → p x ≡ false → list_any p (xs ++ x ∷ []) ≡ list_any p xs
any_front p [] x e = rw e refl
any_front p (y ∷ xs) x e = ap (λ (b : Bool). p y || b) (any_front p xs x e)

-- a line that names it begins it
pub place_begun : (lines : List Catch) (caught : Catch) → names_place caught ≡ true → place_lines (lines ++ caught ∷ []) ≡ caught ∷ []
place_begun [] caught e = refl
place_begun (line ∷ lines) caught e =
    ap (λ (b : Bool). cond b (place_lines (lines ++ caught ∷ [])) (line ∷ (lines ++ caught ∷ []))) (any_last names_place lines caught e)
    ∙ place_begun lines caught e

kept_with : {A : Type 0} (b : Bool) (xs ys zs : List A) (x : A) → xs ≡ ys ++ x ∷ [] → cond b xs (zs ++ x ∷ []) ≡ cond b ys zs ++ x ∷ []
kept_with true xs ys zs x e = e
kept_with false xs ys zs x e = refl

-- another goes on with it
pub place_kept : (lines : List Catch) (caught : Catch) → names_place caught ≡ false → place_lines (lines ++ caught ∷ []) ≡ place_lines lines ++ caught ∷ []
place_kept [] caught e = refl
place_kept (line ∷ lines) caught e =
    ap (λ (b : Bool). cond b (place_lines (lines ++ caught ∷ [])) (line ∷ (lines ++ caught ∷ []))) (any_front names_place lines caught e)
    ∙ kept_with (list_any names_place lines) (place_lines (lines ++ caught ∷ [])) (place_lines lines) (line ∷ lines) caught (place_kept lines caught e)

-- ---- one more line

-- behind those in front of it, that line alone is left
drop_last : {A : Type 0} (xs : List A) (i : ℕ) (d : A) → i < length xs → drop i (take (i + 1) xs) ≡ get_or xs i d ∷ []
drop_last xs i d within = drop-take i 1 xs ∙ at_drop_more (take 1) xs i d within

-- it stands behind the others
drop_front : {A : Type 0} (xs : List A) (first i : ℕ) (d : A) → i < length xs → first ≤ i
    → drop first (take (i + 1) xs) ≡ drop first (take i xs) ++ get_or xs i d ∷ []
drop_front xs first i d within up =
    let whole : length (take i xs) ≡ i = length-take-le i xs (omega arith) in
    ap (drop first) (take_more xs i d within) ∙ drop-append-le first (take i xs) (get_or xs i d ∷ []) (omega arith)

-- what was caught last of the lines up to one
pub last_more : (group : Group) (lines : List Caught) (i : ℕ) (d : Caught) (last piece chosen : Option Piece) → i < length lines
    → chosen ≡ option_or piece last → option_map cut_told piece ≡ cut_in group (caught_at (get_or lines i d))
    → option_map cut_told last ≡ last_of group (map caught_at (take i lines))
    → option_map cut_told chosen ≡ last_of group (map caught_at (take (i + 1) lines))
last_more group lines i d last piece chosen within chosen_is piece_is last_is =
    ap (λ (o : Option Piece). option_map cut_told o) chosen_is ∙ or_seen cut_told piece last ∙ ap₂ option_or piece_is last_is
    ∙ sym (last_push group (map caught_at (take i lines)) (caught_at (get_or lines i d)))
    ∙ ap (last_of group) (sym (map_more caught_at lines i d within))

-- the lines of the place up to one that begins it
pub begun_more : (lines : List Caught) (i : ℕ) (d : Caught) → i < length lines → names_place (caught_at (get_or lines i d)) ≡ true
    → place_lines (map caught_at (take (i + 1) lines)) ≡ map caught_at (drop i (take (i + 1) lines))
begun_more lines i d within names =
    ap place_lines (map_more caught_at lines i d within)
    ∙ place_begun (map caught_at (take i lines)) (caught_at (get_or lines i d)) names
    ∙ ap (map caught_at) (sym (drop_last lines i d within))

-- and up to one that goes on with it
pub kept_more : (lines : List Caught) (first i : ℕ) (d : Caught) → i < length lines → first ≤ i → names_place (caught_at (get_or lines i d)) ≡ false
    → place_lines (map caught_at (take i lines)) ≡ map caught_at (drop first (take i lines))
    → place_lines (map caught_at (take (i + 1) lines)) ≡ map caught_at (drop first (take (i + 1) lines))
kept_more lines first i d within up names so_far =
    ap place_lines (map_more caught_at lines i d within)
    ∙ place_kept (map caught_at (take i lines)) (caught_at (get_or lines i d)) names
    ∙ ap (λ (xs : List Catch). xs ++ caught_at (get_or lines i d) ∷ []) so_far
    ∙ sym (map-append caught_at (drop first (take i lines)) (get_or lines i d ∷ []))
    ∙ ap (map caught_at) (sym (drop_front lines first i d within up))
