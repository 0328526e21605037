-- Look-ups in lists of pairs, and fetch steps seen under other ids.
use Rattle.std.proofs.Common.{◌≡◌, ℕ, List, [], ◌∷◌, ◌++◌, map, Bool, true, false, cond, Some, None, IsSome, is_some, Option, Result, Ok, Err, refl, sym, ap, subst}
use Rattle.std.proofs.Common.{◌∙◌}
use Rattle.std.specs.Prelude.{⊤, reverse, OnOk, OnErr}
use Rattle.std.specs.Cmp.{IsEquivalence}
use Rattle.std.specs.Map.{lookup}
use Rattle.std.specs.Option.{option_or}
use Rattle.std.proofs.lemmas.List.{reverse-append, map-append}
use Rattle.ariadne_base.specs.Listing.{Listing}
use Rattle.ariadne_base.specs.Cache.{held, Grows, KeepsOtherIds, SameHeld, Fetched, listed, listing_of}
use Rattle.ariadne_base.specs.declared.cache.FetchError.{FetchError}
use Rattle.ariadne_base.specs.declared.cache.FetchError.TheVariants.{Memory, Failed}

-- a test of renamed keys finds what it finds of their new names
pub lookup-map_keys : {K L S : Type 0} (f : K → L) (test : L → Bool) (es : List (K × S))
    → lookup test (map (λ e. (f e.0, e.1)) es) ≡ lookup (λ k. test (f k)) es
lookup-map_keys f test [] = refl
lookup-map_keys f test (e ∷ es) = ap (cond (test (f e.0)) (Some e.1)) (lookup-map_keys f test es)

-- what the first of two lists has counts
pub lookup-append : {K S : Type 0} (test : K → Bool) (xs ys : List (K × S))
    → lookup test (xs ++ ys) ≡ option_or (lookup test xs) (lookup test ys)
lookup-append test [] ys = refl
lookup-append test (x ∷ xs) ys =
    elim (test x.0) as (λ b. cond b (Some x.1) (lookup test (xs ++ ys))
    ≡ option_or (cond b (Some x.1) (lookup test xs)) (lookup test ys))
    [ true ↦ refl | false ↦ lookup-append test xs ys ]

-- the last of a list comes first in its reverse
pub reverse-push : {A : Type 0} (xs : List A) (x : A) → reverse (xs ++ x ∷ []) ≡ x ∷ reverse xs
reverse-push xs x = reverse-append xs (x ∷ [])

-- a fetch step carries over to other ids that are tested by the same keys
pub Fetched-through : {K L E : Type 0} (eq : K → K → Bool) (test : L → L → Bool) (f : K → L)
    (old new : List (K × Listing)) (seen_old seen_new : List (L × Listing)) (id : K)
    (told : Result Unit (FetchError E)) → ((p q : K) → eq p q ≡ test (f p) (f q))
    → ((q : K) → held eq old q ≡ held test seen_old (f q))
    → ((q : K) → held eq new q ≡ held test seen_new (f q))
    → Fetched test (λ _ _. ⊤) seen_old seen_new (f id) told → Fetched eq (λ _ _. ⊤) old new id told
Fetched-through eq test f old new seen_old seen_new id (Ok _) same was is h = (
  subst IsSome (sym (is id)) h.0,
  (λ q there. is q ∙ h.1 (f q) (subst IsSome (was q) there) ∙ sym (was q)),
  (λ q apart. is q ∙ h.2 (f q) (sym (same id q) ∙ apart) ∙ sym (was q)),
  (λ there q. is q ∙ h.3 (subst IsSome (was id) there) (f q) ∙ sym (was q)),
)
Fetched-through eq test f old new seen_old seen_new id (Err (Memory _)) same was is h =
    (was id ∙ h.0, (λ q. is q ∙ h.1 (f q) ∙ sym (was q)))
Fetched-through eq test f old new seen_old seen_new id (Err (Failed e)) same was is h =
    (was id ∙ h.0, (λ q. is q ∙ h.1 (f q) ∙ sym (was q)), h.2)

-- a refusal leaves what was held, where the id was not held
pub Fetched-refused : {Id E : Type 0} (eq : Id → Id → Bool) (contents : List (Id × Listing)) (id : Id)
    (error : FetchError E) → held eq contents id ≡ None
    → Fetched eq (λ _ _. ⊤) contents contents id (Err error)
Fetched-refused eq contents id (Memory _) none = (none, λ q. refl)
Fetched-refused eq contents id (Failed e) none = (none, (λ q. refl), tt)

-- what is not there is nothing
pub none-there : {S : Type 0} (found : Option S) → false ≡ is_some found → found ≡ None
none-there None told = refl
none-there (Some s) told = cc

-- nothing is not there
pub nothing-there : {S P : Type 0} (found : Option S) → found ≡ None → IsSome found → P
nothing-there (Some s) none there = cc
nothing-there None none there = cc

-- equal ids find the same
held-equal : {Id : Type 0} {eq : Id → Id → Bool} (laws : IsEquivalence eq) (contents : List (Id × Listing))
    (p q : Id) → eq p q ≡ true → held eq contents p ≡ held eq contents q
held-equal laws contents p q e = λ i. lookup (λ k. laws.congr p q k e i) contents

-- the new contents are the old ones with s put under an id
pub record Put {Id : Type 0} (eq : Id → Id → Bool) (id : Id) (s : Listing) (old new : List (Id × Listing)) : Type 0 where
  pub at : (q : Id) → held eq new q ≡ cond (eq id q) (Some s) (held eq old q)

module _ {Id : Type 0} {eq : Id → Id → Bool} (laws : IsEquivalence eq) {id : Id} {s : Listing} {old new : List (Id × Listing)} where
  -- what is put under an equal id is put under the id
  pub Put-equal : (key : Id) → eq id key ≡ true
      → ((q : Id) → held eq new q ≡ cond (eq key q) (Some s) (held eq old q)) → Put eq id s old new
  Put-equal key same put = record {
    at = λ q. put q ∙ ap (λ b. cond b (Some s) (held eq old q)) (sym (laws.congr id key q same));
  }

  -- what was put is found
  pub held-put : Put eq id s old new → held eq new id ≡ Some s
  held-put put = put.at id ∙ ap (λ b. cond b (Some s) (held eq old id)) (laws.refl id)

  -- other ids find what they found
  pub KeepsOtherIds-put : Put eq id s old new → KeepsOtherIds eq id old new
  KeepsOtherIds-put put = λ q apart. put.at q ∙ ap (λ b. cond b (Some s) (held eq old q)) apart

  -- where nothing was held under the id, what was held stays
  pub Grows-put : Put eq id s old new → held eq old id ≡ None → Grows eq old new
  Grows-put put none = λ q there.
      let by_test : (b : Bool) → eq id q ≡ b → held eq new q ≡ held eq old q = elim [
        | true ↦ λ e.
            let gone : false ≡ true = subst IsSome (sym (held-equal laws old id q e) ∙ none) there in cc
        | false ↦ λ e. KeepsOtherIds-put put q e
      ]
      in by_test (eq id q) refl

-- what a try to put s under an id leaves, where nothing was held under it
pub tried-put : {Id E : Type 0} {eq : Id → Id → Bool} (laws : IsEquivalence eq) (id : Id) (s : Listing) (old new : List (Id × Listing))
    (told : Result Unit E) → OnOk told (Put eq id s old new) → OnErr told (new ≡ old) → held eq old id ≡ None
    → OnOk told (held eq new id ≡ Some s) × KeepsOtherIds eq id old new × Grows eq old new × OnErr told (SameHeld eq old new)
tried-put laws id s old new (Ok _) put same none = (held-put laws put, KeepsOtherIds-put laws put, Grows-put laws put none, tt)
tried-put {eq = eq} laws id s old new (Err _) put same none =
    let kept : SameHeld eq old new = λ q. ap (λ l. held eq l q) same in (tt, (λ q apart. kept q), (λ q there. kept q), kept)

-- the pairs of id and text so far, the last first, and one pair more
pub listed-push : {Id I : Type 0} {eq : Id → Id → Bool} (laws : IsEquivalence eq) (text : I → List ℕ)
    (pairs : List (Id × I)) (id : Id) (item : I) (old new : List (Id × Listing))
    → SameHeld eq (reverse (listed text pairs)) old
    → ((q : Id) → held eq new q ≡ cond (eq id q) (Some (listing_of (text item))) (held eq old q))
    → SameHeld eq (reverse (listed text (pairs ++ (id, item) ∷ []))) new
listed-push {eq = eq} laws text pairs id item old new so_far put q =
    let one_more = map-append (λ p. (p.0, listing_of (text p.1))) pairs ((id, item) ∷ []) in
    let turned = ap reverse one_more ∙ reverse-push (listed text pairs) (id, listing_of (text item)) in
    put q
    ∙ ap (λ b. cond b (Some (listing_of (text item))) (held eq old q)) (laws.symm id q)
    ∙ ap (cond (eq q id) (Some (listing_of (text item)))) (so_far q)
    ∙ ap (λ l. held eq l q) (sym turned)
