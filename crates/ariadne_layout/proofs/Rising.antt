-- Lists whose elements rise by a number that each has, cut where that number reaches a bound.
use Rattle.std.proofs.Common.{◌≡◌, ℕ, suc, ◌+◌, ◌-◌, ◌<◌, ◌≤◌, Bool, true, false, ◌&&◌, cond, List, [], ◌∷◌, ◌++◌, take, drop, length, get_or, filter, nat_le, nat_lt}
use Rattle.std.proofs.Common.{refl, sym, ap, ◌∙◌, arith, inl, inr}
use Rattle.std.specs.Prelude.{slice_range}
use Rattle.std.specs.List.{prefix_len}
use Rattle.std.proofs.lemmas.Bool.{cond_both, cases_lt, ltb-true, ltb-false, lt-ltb, le-ltb, le-leb, lt-leb}
use Rattle.std.proofs.lemmas.List.{length-append, take_at, drop_at}
use Rattle.std.proofs.lemmas.List.Elements.{filter-append}
use Rattle.std.proofs.lemmas.List.Sums.{prefix_len_is, prefix_len_passes}
use Rattle.ariadne_picture.specs.Lists.{inserted, in_order}
use Rattle.ariadne_picture.proofs.Lists.ListFacts.{Increasing, all-weaker, all-filter, all-kept, all-inserted, filter-all, filter-none}

-- ---- filters

-- two filters are one that asks both
pub filter-both : {X : Type 0} (p q : X → Bool) (xs : List X) → filter p (filter q xs) ≡ filter (λ x. q x && p x) xs
filter-both p q [] = refl
filter-both p q (x ∷ xs) =
    elim (q x) as (λ v. filter p (cond v (x ∷ filter q xs) (filter q xs))
    ≡ cond (v && p x) (x ∷ filter (λ x. q x && p x) xs) (filter (λ x. q x && p x) xs)) [
      | true ↦ ap (λ t. cond (p x) (x ∷ t) t) (filter-both p q xs)
      | false ↦ filter-both p q xs
    ]

-- a filter leaves no more than there was
pub filter-shorter : {X : Type 0} (p : X → Bool) (xs : List X) → length (filter p xs) ≤ length xs
filter-shorter p [] = omega arith
filter-shorter p (x ∷ xs) =
    let more = filter-shorter p xs in
    cond_both (p x) (x ∷ filter p xs) (filter p xs) (λ ys. length ys ≤ suc (length xs)) (λ _. omega arith) (λ _. omega arith)

-- ---- a list that rises

-- the number of each element is at most that of each later one
abbrev pub RisesBy : {X : Type 0} → (X → ℕ) → List X → Type 0
RisesBy f xs = Increasing (λ a b. f a ≤ f b) xs

-- the order by that number
abbrev pub by_number : {X : Type 0} → (X → ℕ) → X → X → Bool
by_number f a b = nat_lt (f a) (f b)

module _ {X : Type 0} (f : X → ℕ) where
  -- an element is inserted where it keeps the list rising
  pub inserted-rises : (x : X) (ys : List X) → RisesBy f ys → RisesBy f (inserted (by_number f) x ys)
  unfolding inserted
  inserted-rises x [] h = (tt, tt)
  inserted-rises x (y ∷ ys) h =
      cond_both (nat_lt (f y) (f x)) (y ∷ inserted (by_number f) x ys) (x ∷ y ∷ ys) (RisesBy f)
      (λ t. let less = ltb-true (f y) (f x) t in
      (all-inserted (λ z. f y ≤ f z) (by_number f) x ys (omega arith) h.0, inserted-rises x ys h.1))
      (λ e. let more : f x ≤ f y = ltb-false (f y) (f x) e in
      ((more, all-weaker (λ z. f y ≤ f z) (λ z. f x ≤ f z) ys (λ z k. omega arith) h.0), h))

  -- so a list in order rises
  pub in_order-rises : (xs : List X) → RisesBy f (in_order (by_number f) xs)
  unfolding in_order
  in_order-rises [] = tt
  in_order-rises (x ∷ xs) = inserted-rises x (in_order (by_number f) xs) (in_order-rises xs)

  -- and so does what a filter keeps
  pub filter-rises : (p : X → Bool) (xs : List X) → RisesBy f xs → RisesBy f (filter p xs)
  filter-rises p [] h = tt
  filter-rises p (x ∷ xs) h =
      cond_both (p x) (x ∷ filter p xs) (filter p xs) (RisesBy f)
      (λ _. (all-filter (λ z. f x ≤ f z) p xs h.0, filter-rises p xs h.1)) (λ _. filter-rises p xs h.1)

  -- ---- where it reaches a bound

  -- the elements below it
  abbrev pub below : ℕ → List X → List X
  below b xs = filter (λ x. nat_lt (f x) b) xs

  -- and the others
  abbrev pub from : ℕ → List X → List X
  from b xs = filter (λ x. nat_le b (f x)) xs

  -- the first stand in front of the others
  pub parted : (b : ℕ) (xs : List X) → RisesBy f xs → below b xs ++ from b xs ≡ xs
  parted b [] h = refl
  parted b (x ∷ xs) h = elim (cases_lt (f x) b) [
    | inl less ↦ rw (lt-ltb (f x) b less, lt-leb b (f x) less) (ap (λ t. x ∷ t) (parted b xs h.1))
    | inr more ↦
        let none : below b xs ≡ [] =
        filter-none (λ x. nat_lt (f x) b) xs (all-weaker (λ z. f x ≤ f z) (λ z. nat_lt (f z) b ≡ false) xs (λ z k. le-ltb (f z) b (omega arith)) h.0) in
        let all : from b xs ≡ xs =
        filter-all (λ x. nat_le b (f x)) xs (all-weaker (λ z. f x ≤ f z) (λ z. nat_le b (f z) ≡ true) xs (λ z k. le-leb b (f z) (omega arith)) h.0) in
        rw (le-ltb (f x) b more, le-leb b (f x) more) (λ i. none i ++ x ∷ all i)
  ]

  -- so it is cut between the two
  pub taken-below : (b : ℕ) (xs : List X) → RisesBy f xs → take (length (below b xs)) xs ≡ below b xs
  taken-below b xs h = ap (take (length (below b xs))) (sym (parted b xs h)) ∙ take_at (below b xs) (from b xs) (length (below b xs)) refl

  -- the others are left
  pub dropped-below : (b : ℕ) (xs : List X) → RisesBy f xs → drop (length (below b xs)) xs ≡ from b xs
  dropped-below b xs h = ap (drop (length (below b xs))) (sym (parted b xs h)) ∙ drop_at (below b xs) (from b xs) (length (below b xs)) refl

  -- as many are below it as pass one after another from the first on
  pub below-prefix : (b : ℕ) (xs : List X) → RisesBy f xs → length (below b xs) ≡ prefix_len (λ x. nat_lt (f x) b) xs
  below-prefix b [] h = refl
  below-prefix b (x ∷ xs) h = elim (cases_lt (f x) b) [
    | inl less ↦ let more = below-prefix b xs h.1 in rw (lt-ltb (f x) b less) (omega arith)
    | inr past ↦
        let none : below b xs ≡ [] =
        filter-none (λ x. nat_lt (f x) b) xs (all-weaker (λ z. f x ≤ f z) (λ z. nat_lt (f z) b ≡ false) xs (λ z k. le-ltb (f z) b (omega arith)) h.0) in
        rw (le-ltb (f x) b past) (ap length none)
  ]

  -- ---- between two bounds

  -- what is below the lower bound is below the higher
  below-less : (b c : ℕ) (xs : List X) → b ≤ c → below c (below b xs) ≡ below b xs
  below-less b c xs h =
      filter-all (λ x. nat_lt (f x) c) (below b xs)
      (all-weaker (λ x. nat_lt (f x) b ≡ true) (λ x. nat_lt (f x) c ≡ true) (below b xs)
      (λ x t. let less = ltb-true (f x) b t in lt-ltb (f x) c (omega arith)) (all-kept (λ x. nat_lt (f x) b) xs))

  -- the part from where the lower bound is reached to where the higher is
  pub part-between : (b c : ℕ) (xs : List X) → b ≤ c → RisesBy f xs
      → slice_range xs (length (below b xs)) (length (below c xs)) ≡ filter (λ x. nat_le b (f x) && nat_lt (f x) c) xs
  part-between b c xs h up =
      let ys : List X = from b xs in
      let halves : below c xs ≡ below b xs ++ below c ys =
      ap (below c) (sym (parted b xs up)) ∙ filter-append (λ x. nat_lt (f x) c) (below b xs) ys ∙ ap (λ t. t ++ below c ys) (below-less b c xs h) in
      let long : length (below c xs) ≡ length (below b xs) + length (below c ys) =
      ap length halves ∙ length-append (below b xs) (below c ys) in
      let here : length (below c xs) - length (below b xs) ≡ length (below c ys) = omega arith in
      ap (take (length (below c xs) - length (below b xs))) (dropped-below b xs up) ∙ ap (λ n. take n ys) here
      ∙ taken-below c ys (filter-rises (λ x. nat_le b (f x)) xs up) ∙ filter-both (λ x. nat_lt (f x) c) (λ x. nat_le b (f x)) xs

  -- where the part up to e is below the higher bound, and what follows is not, that bound is reached at e
  pub reached : (b c e : ℕ) (xs : List X) (d : X) → b ≤ c → RisesBy f xs → e ≤ length xs
      → ((k : ℕ) → length (below b xs) ≤ k → k < e → f (get_or xs k d) < c)
      → (e < length xs → c ≤ f (get_or xs e d)) → length (below c xs) ≡ e
  reached b c e xs d h up short inside past =
      let pre : length (below b xs) ≡ prefix_len (λ x. nat_lt (f x) b) xs = below-prefix b xs up in
      below-prefix c xs up ∙ prefix_len_is (λ x. nat_lt (f x) c) xs e d short
      (λ k less. elim (cases_lt k (length (below b xs))) [
        | inl early ↦
            let low = ltb-true (f (get_or xs k d)) b (prefix_len_passes (λ x. nat_lt (f x) b) xs k d (omega arith)) in
            lt-ltb (f (get_or xs k d)) c (omega arith)
        | inr late ↦ lt-ltb (f (get_or xs k d)) c (inside k late less)
      ])
      (λ more. le-ltb (f (get_or xs e d)) c (past more))
