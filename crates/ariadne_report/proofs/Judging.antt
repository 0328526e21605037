-- One label more is judged: what the cache holds by then, the outcomes of the labels so far, and what is drawn and what is left out of them.
use Rattle.std.proofs.Common.{◌≡◌, ℕ, zero, suc, ◌+◌, ◌<◌, ◌≤◌, Bool, true, false, List, [], ◌∷◌, ◌++◌, Option, Some, None, length, take, get_or, not, refl}
use Rattle.std.proofs.Common.{sym, ap, ◌∙◌, subst, arith}
use Rattle.std.specs.Prelude.{IsSome, IsSomeAnd}
use Rattle.std.specs.List.{AllByRecursion, list_any}
use Rattle.std.specs.Cmp.{IsEquivalence}
use Rattle.std.specs.HashMap.Eq.{lookup_congr}
use Rattle.std.proofs.lemmas.Grind.{common_steps}
use Rattle.std.proofs.lemmas.List.{append-nil, take_more, length-take-le}
use Rattle.std.proofs.lemmas.Option.{slice_get-get_or}
use Rattle.ariadne_base.specs.Cache.{Grows, held}
use Rattle.ariadne_base.specs.Listing.{Listing}
use Rattle.ariadne_picture.specs.declared.label_info.LabelInfo.{LabelInfo}
use Rattle.ariadne_picture.specs.declared.verdict.Verdict.TheVariants.{Accepted}
use Rattle.ariadne_picture.specs.declared.verdict.Verdict.TheVariants.{PastSource as past}
use Rattle.ariadne_picture.specs.declared.verdict.Verdict.TheVariants.{CutsCharacter as cuts}
use Rattle.ariadne_picture.specs.Report.{ConfigFields, LabelFields, World, HaveOneSource}
use Rattle.ariadne_picture.specs.Accept.{verdict, verdict_in}
use Rattle.ariadne_picture.proofs.Lists.ListFacts.{all-append}
use Rattle.ariadne_report.specs.declared.accept.LeftOut.{LeftOut}
use Rattle.ariadne_report.specs.declared.accept.Reason.{Reason}
use Rattle.ariadne_report.specs.declared.accept.Reason.TheVariants.{Unfetched, PastSource, CutsCharacter}
use Rattle.ariadne_report.specs.CacheReads.{world}
use Rattle.ariadne_report.specs.Judging.{AreJudged, GrowsFor, IsJudged, NoneUnfetched, Outcome, StayFetched, drawn_as, drawn_labels, is_unfetched}
use Rattle.ariadne_report.specs.Judging.{left_out_for, listed}
use Rattle.ariadne_report.specs.Progress.{IsSourceAt, SoFar}

-- ---- lists

-- no element of a beginning passes a test that none of the list does
any_take : {A : Type 0} (p : A → Bool) (xs : List A) (i : ℕ) → list_any p xs ≡ false → list_any p (take i xs) ≡ false
any_take p [] zero h = refl
any_take p [] (suc i) h = refl
any_take p (x ∷ xs) zero h = refl
any_take p (x ∷ xs) (suc i) h = grind (arith, common_steps, any_take p xs i)

-- nor does the last, or any before it
any_push : {A : Type 0} (p : A → Bool) (xs : List A) (x : A) → list_any p (xs ++ x ∷ []) ≡ false → (list_any p xs ≡ false) × (list_any p (x ∷ []) ≡ false)
any_push p [] x h = (refl, h)
any_push p (y ∷ xs) x h = grind (arith, common_steps, any_push p xs x)

-- one element more of a list
taken : {A : Type 0} (xs : List A) (i : ℕ) (x : A) → i < length xs → x ≡ get_or xs i x → take (i + 1) xs ≡ take i xs ++ x ∷ []
taken xs i x there is = take_more xs i x there ∙ ap (λ z. take i xs ++ z ∷ []) (sym is)

-- what holds of all elements before one and of it holds of the beginning up to it
pub all_more : {A : Type 0} (P : A → Type 0) (xs : List A) (i : ℕ) (x : A) → i < length xs → x ≡ get_or xs i x → AllByRecursion P (take i xs) → P x
    → AllByRecursion P (take (i + 1) xs)
all_more P xs i x there is so_far one =
    subst (AllByRecursion P) (sym (taken xs i x there is)) (all-append P (take i xs) (x ∷ []) so_far (one, tt))

-- ---- what is held stays

-- what holds of the source that was held
kept_some : {A : Type 0} (a b : Option A) (P : A → Type 0) → (IsSome a → b ≡ a) → IsSomeAnd a P → IsSomeAnd b P
kept_some None b P k h = absurd h
kept_some (Some x) b P k h = subst (λ o. IsSomeAnd o P) (sym (k refl)) h

-- what is not held was not held
was_none : {A : Type 0} (a b : Option A) → (IsSome a → b ≡ a) → b ≡ None → a ≡ None
was_none None b k h = refl
was_none (Some x) b k h = let e = k refl in cc

-- a source of which something holds is there
some_and : {A : Type 0} (o : Option A) (P : A → Type 0) → IsSomeAnd o P → IsSome o
some_and None P h = absurd h
some_and (Some x) P h = refl

-- a source that is there is not missing
not_none : {A : Type 0} (a b : Option A) → a ≡ b → IsSome a → b ≡ None → ⊥
not_none None b e h n = absurd (let z : false ≡ true = h in cc)
not_none (Some x) b e h n = cc

-- equal ids find the same source
pub one_source : {S Id : Type 0} (id_of : S → Id) (start_of end_of : S → ℕ) (eq : Id → Id → Bool) → IsEquivalence eq
    → (names : Id → Option (List ℕ)) (contents : List (Id × Listing)) → HaveOneSource (world id_of start_of end_of eq names contents)
one_source id_of start_of end_of eq laws names contents p q same = lookup_congr eq laws.congr contents p q same

-- ---- growth

module _ {S Id : Type 0} (id_of : S → Id) (eq : Id → Id → Bool) where
  -- no label was asked for
  pub grows_start : (labels : List (LabelFields S)) (a : List (Id × Listing)) → GrowsFor id_of eq (take 0 labels) a a
  grows_start labels a = record { kept = λ q h. refl; only = λ q h. refl }

  -- one label more
  pub grows_more : (labels : List (LabelFields S)) (i : ℕ) (x : LabelFields S) (a b c : List (Id × Listing)) → i < length labels → x ≡ get_or labels i x
      → GrowsFor id_of eq (take i labels) a b → GrowsFor id_of eq (x ∷ []) b c → GrowsFor id_of eq (take (i + 1) labels) a c
  grows_more labels i x a b c there is f g = record {
    kept = λ q h. g.kept q (subst IsSome (sym (f.kept q h)) h) ∙ f.kept q h;
    only = λ q h.
        let both = any_push (λ label. eq (id_of label.span) q) (take i labels) x
        (subst (λ ls. list_any (λ label. eq (id_of label.span) q) ls ≡ false) (taken labels i x there is) h) in
        g.only q both.1 ∙ f.only q both.0;
  }

  -- those of some labels are those of all
  grows_within : (labels : List (LabelFields S)) (i : ℕ) (a b : List (Id × Listing)) → GrowsFor id_of eq (take i labels) a b
      → GrowsFor id_of eq labels a b
  grows_within labels i a b g =
      record { kept = g.kept; only = λ q h. g.only q (any_take (λ label. eq (id_of label.span) q) labels i h) }

  -- so it is for the labels in front of one and that one
  pub grows_at : (labels items : List (LabelFields S)) (i : ℕ) (x : LabelFields S) (a b c : List (Id × Listing)) → items ≡ labels → i < length items
      → x ≡ get_or items i x → GrowsFor id_of eq (take i labels) a b → GrowsFor id_of eq (x ∷ []) b c → GrowsFor id_of eq labels a c
  grows_at labels items i x a b c same there is f g =
      grows_within labels (i + 1) a c (grows_more labels i x a b c (rw same at there) (rw same at is) f g)

-- ---- outcomes

-- one label more, where it is left out
listed_push : {E : Type 0} (n : ℕ) (outcomes : List (Outcome E)) (outcome : Outcome E)
    → listed n (outcomes ++ outcome ∷ []) ≡ listed n outcomes ++ listed (n + length outcomes) (outcome ∷ [])
listed_push n [] outcome = let z : n + 0 ≡ n = omega arith in rw z refl
listed_push n (drawn_as info ∷ outcomes) outcome =
    let z : n + 1 + length outcomes ≡ n + suc (length outcomes) = omega arith in
    listed_push (n + 1) outcomes outcome ∙ ap (λ m. listed (n + 1) outcomes ++ listed m (outcome ∷ [])) z
listed_push n (left_out_for first ∷ outcomes) outcome =
    let z : n + 1 + length outcomes ≡ n + suc (length outcomes) = omega arith in
    ap (λ xs. record { label = n; reason = first } ∷ xs)
    (listed_push (n + 1) outcomes outcome ∙ ap (λ m. listed (n + 1) outcomes ++ listed m (outcome ∷ [])) z)

-- and where it is drawn
drawn_push : {E : Type 0} (outcomes : List (Outcome E)) (outcome : Outcome E)
    → drawn_labels (outcomes ++ outcome ∷ []) ≡ drawn_labels outcomes ++ drawn_labels (outcome ∷ [])
drawn_push [] outcome = refl
drawn_push (drawn_as info ∷ outcomes) outcome = ap (λ xs. info ∷ xs) (drawn_push outcomes outcome)
drawn_push (left_out_for reason ∷ outcomes) outcome = drawn_push outcomes outcome

module _ {S Id E : Type 0} (fails : Id → E → Type 0) (config : ConfigFields) where
  module _ (before after : World S Id) where
    -- there is one for each label
    judged_length : (k : ℕ) (labels : List (LabelFields S)) (outcomes : List (Outcome E)) → AreJudged fails before after config k labels outcomes
        → length outcomes ≡ length labels
    judged_length k [] [] h = refl
    judged_length k [] (outcome ∷ outcomes) h = absurd h
    judged_length k (label ∷ labels) [] h = absurd h
    judged_length k (label ∷ labels) (outcome ∷ outcomes) h = ap suc (judged_length (suc k) labels outcomes h.1)

    -- one label more is judged
    judged_push : (k : ℕ) (labels : List (LabelFields S)) (outcomes : List (Outcome E)) (x : LabelFields S) (r : Outcome E)
        → AreJudged fails before after config k labels outcomes → IsJudged fails before after config (k + length labels) x r
        → AreJudged fails before after config k (labels ++ x ∷ []) (outcomes ++ r ∷ [])
    judged_push k [] [] x r h j = let z : k + 0 ≡ k = omega arith in (subst (λ n. IsJudged fails before after config n x r) z j, tt)
    judged_push k [] (outcome ∷ outcomes) x r h j = absurd h
    judged_push k (label ∷ labels) [] x r h j = absurd h
    judged_push k (label ∷ labels) (outcome ∷ outcomes) x r h j =
        let z : k + suc (length labels) ≡ suc k + length labels = omega arith in
        (h.0, judged_push (suc k) labels outcomes x r h.1 (subst (λ n. IsJudged fails before after config n x r) z j))

  -- ---- over a cache that grows

  module _ (id_of : S → Id) (start_of end_of : S → ℕ) (eq : Id → Id → Bool) where
    -- what is read of it by its names and contents
    abbrev pub at : (Id → Option (List ℕ)) → List (Id × Listing) → World S Id
    at = world id_of start_of end_of eq

    module _ (na nb nc nd : Id → Option (List ℕ)) (a b c d : List (Id × Listing)) (early : Grows eq a b) (late : Grows eq c d) where
      -- an outcome stays one where less was held before, and more is held after
      judged_weaker : (k : ℕ) (label : LabelFields S) (r : Outcome E) → IsJudged fails (at nb b) (at nc c) config k label r
          → IsJudged fails (at na a) (at nd d) config k label r
      judged_weaker k label (drawn_as info) h = kept_some _ _ _ (late (id_of label.span)) h
      judged_weaker k label (left_out_for (Unfetched e)) h = (was_none _ _ (early (id_of label.span)) h.0, h.1)
      judged_weaker k label (left_out_for PastSource) h = kept_some _ _ _ (late (id_of label.span)) h
      judged_weaker k label (left_out_for CutsCharacter) h = kept_some _ _ _ (late (id_of label.span)) h

      -- so do those of all labels
      judged_all : (k : ℕ) (labels : List (LabelFields S)) (outcomes : List (Outcome E))
          → AreJudged fails (at nb b) (at nc c) config k labels outcomes → AreJudged fails (at na a) (at nd d) config k labels outcomes
      judged_all k [] [] h = tt
      judged_all k [] (outcome ∷ outcomes) h = absurd h
      judged_all k (label ∷ labels) [] h = absurd h
      judged_all k (label ∷ labels) (outcome ∷ outcomes) h = (judged_weaker k label outcome h.0, judged_all (suc k) labels outcomes h.1)

    module _ (laws : IsEquivalence eq) (na nb nc : Id → Option (List ℕ)) (a b c : List (Id × Listing)) (n : ℕ) (x : LabelFields S)
        (r : Outcome E) (now : IsJudged fails (at nb b) (at nc c) config n x r) where
      -- the source of a label that was had is held
      had : (k : ℕ) (label : LabelFields S) (outcome : Outcome E) → IsJudged fails (at na a) (at nb b) config k label outcome
          → is_unfetched outcome ≡ false → IsSome (held eq b (id_of label.span))
      had k label (drawn_as info) h u = some_and _ _ h
      had k label (left_out_for (Unfetched e)) h u = cc
      had k label (left_out_for PastSource) h u = some_and _ _ h
      had k label (left_out_for CutsCharacter) h u = some_and _ _ h

      -- so one of an equal id is had
      fetched_now : (r : Outcome E) → IsJudged fails (at nb b) (at nc c) config n x r → (label : LabelFields S)
          → IsSome (held eq b (id_of label.span)) → eq (id_of label.span) (id_of x.span) ≡ true → is_unfetched r ≡ false
      fetched_now (drawn_as info) h label some same = refl
      fetched_now (left_out_for (Unfetched e)) h label some same =
          absurd (not_none _ _ (one_source id_of start_of end_of eq laws nb b (id_of label.span) (id_of x.span) same) some h.0)
      fetched_now (left_out_for PastSource) h label some same = refl
      fetched_now (left_out_for CutsCharacter) h label some same = refl

      -- and none of an equal id is unfetched, also where this label comes last
      none_push : (label : LabelFields S) → IsSome (held eq b (id_of label.span)) → (labels : List (LabelFields S)) (outcomes : List (Outcome E))
          → NoneUnfetched (at nb b) label labels outcomes → NoneUnfetched (at nc c) label (labels ++ x ∷ []) (outcomes ++ r ∷ [])
      none_push label some [] [] h = (fetched_now r now label some, tt)
      none_push label some [] (outcome ∷ outcomes) h = absurd h
      none_push label some (other ∷ labels) [] h = absurd h
      none_push label some (other ∷ labels) (outcome ∷ outcomes) h = (h.0, none_push label some labels outcomes h.1)

      -- so it is for each label that was had
      stay_push : (k : ℕ) (labels : List (LabelFields S)) (outcomes : List (Outcome E))
          → AreJudged fails (at na a) (at nb b) config k labels outcomes
          → StayFetched (at nb b) labels outcomes → StayFetched (at nc c) (labels ++ x ∷ []) (outcomes ++ r ∷ [])
      stay_push k [] [] j h = (λ _. tt, tt)
      stay_push k [] (outcome ∷ outcomes) j h = absurd j
      stay_push k (label ∷ labels) [] j h = absurd j
      stay_push k (label ∷ labels) (outcome ∷ outcomes) j h =
          (λ u. none_push label (had k label outcome j.0 u) labels outcomes (h.0 u), stay_push (suc k) labels outcomes j.1 h.1)

-- ---- the loop over the labels

-- at first there are none
pub so_far_start : {S Id E : Type 0} (fails : Id → E → Type 0) (config : ConfigFields) (before after : World S Id) (labels : List (LabelFields S))
    → SoFar fails config before after (take 0 labels) [] []
so_far_start fails config before after labels =
    record { outcomes = []; are_outcomes = record { judged = tt; stay_fetched = tt }; are_left_out = refl; are_drawn = refl; forward = tt }

-- what some labels have come to stays as a cache grows
module _ {S Id E : Type 0} (fails : Id → E → Type 0) (config : ConfigFields) (id_of : S → Id) (start_of end_of : S → ℕ) (eq : Id → Id → Bool)
    (na nb nc : Id → Option (List ℕ)) (a b c : List (Id × Listing)) (late : Grows eq b c) where
  -- none is unfetched that was not
  stay_same : (labels : List (LabelFields S)) (outcomes : List (Outcome E))
      → StayFetched (world id_of start_of end_of eq nb b) labels outcomes → StayFetched (world id_of start_of end_of eq nc c) labels outcomes
  stay_same [] outcomes h = tt
  stay_same (label ∷ labels) [] h = tt
  stay_same (label ∷ labels) (outcome ∷ outcomes) h = (h.0, stay_same labels outcomes h.1)

  pub so_far_grown : (labels : List (LabelFields S)) (left_out : List (LeftOut E)) (infos : List LabelInfo)
      → SoFar fails config (world id_of start_of end_of eq na a) (world id_of start_of end_of eq nb b) labels left_out infos
      → SoFar fails config (world id_of start_of end_of eq na a) (world id_of start_of end_of eq nc c) labels left_out infos
  so_far_grown labels left_out infos s = record {
    outcomes = s.outcomes;
    are_outcomes = record {
      judged = judged_all fails config id_of start_of end_of eq na na nb nc a a b c (λ q h. refl) late 0 labels s.outcomes s.are_outcomes.judged;
      stay_fetched = stay_same labels s.outcomes s.are_outcomes.stay_fetched;
    };
    are_left_out = s.are_left_out;
    are_drawn = s.are_drawn;
    forward = s.forward;
  }

module _ {S Id E : Type 0} (fails : Id → E → Type 0) (config : ConfigFields) (id_of : S → Id) (start_of end_of : S → ℕ) (eq : Id → Id → Bool)
    (laws : IsEquivalence eq) (na nb nc : Id → Option (List ℕ)) (a b c : List (Id × Listing)) (labels : List (LabelFields S)) (i : ℕ) (x : LabelFields S)
    (there : i < length labels) (is : x ≡ get_or labels i x) (forward : start_of x.span ≤ end_of x.span) (early : Grows eq a b) (late : Grows eq b c)
    (left_out : List (LeftOut E)) (infos : List LabelInfo) where
  -- what is read of the cache at first
  abbrev w0 : World S Id
  w0 = world id_of start_of end_of eq na a

  -- before this label
  abbrev w1 : World S Id
  w1 = world id_of start_of end_of eq nb b

  -- after it
  abbrev w2 : World S Id
  w2 = world id_of start_of end_of eq nc c

  -- one label more
  so_far_more : (r : Outcome E) → IsJudged fails w1 w2 config i x r → SoFar fails config w0 w1 (take i labels) left_out infos
      → SoFar fails config w0 w2 (take (i + 1) labels) (left_out ++ listed i (r ∷ [])) (infos ++ drawn_labels (r ∷ []))
  so_far_more r now s =
      let rs = s.outcomes in
      let ls = take i labels in
      let len : length ls ≡ i = length-take-le i labels (omega arith) in
      let size : 0 + length ls ≡ i = omega arith in
      let judged = s.are_outcomes.judged in
      let count : 0 + length rs ≡ i = omega (arith, judged_length fails config w0 w1 0 ls rs judged) in
      let all : AreJudged fails w0 w2 config 0 ls rs = judged_all fails config id_of start_of end_of eq na na nb nc a a b c (λ q h. refl) late 0 ls rs
      judged in
      let one : IsJudged fails w0 w2 config (0 + length ls) x r = subst (λ n. IsJudged fails w0 w2 config n x r) (sym size)
      (judged_weaker fails config id_of start_of end_of eq na nb nc nc a b c c early (λ q h. refl) i x r now) in
      subst (λ ls. SoFar fails config w0 w2 ls (left_out ++ listed i (r ∷ [])) (infos ++ drawn_labels (r ∷ []))) (sym (taken labels i x there is))
      (record {
        outcomes = rs ++ r ∷ [];
        are_outcomes = record {
          judged = judged_push fails config w0 w2 0 ls rs x r all one;
          stay_fetched = stay_push fails config id_of start_of end_of eq laws na nb nc a b c i x r now 0 ls rs judged s.are_outcomes.stay_fetched;
        };
        are_left_out = ap (λ xs. xs ++ listed i (r ∷ [])) s.are_left_out ∙ ap (λ n. listed 0 rs ++ listed n (r ∷ [])) (sym count)
            ∙ sym (listed_push 0 rs r);
        are_drawn = ap (λ xs. xs ++ drawn_labels (r ∷ [])) s.are_drawn ∙ sym (drawn_push rs r);
        forward = all-append (λ label. start_of label.span ≤ end_of label.span) ls (x ∷ []) s.forward (forward, tt);
      })

  -- one that is left out
  pub so_far_left : (reason : Reason E) → IsJudged fails w1 w2 config i x (left_out_for reason) → SoFar fails config w0 w1 (take i labels) left_out infos
      → SoFar fails config w0 w2 (take (i + 1) labels) (left_out ++ record { label = i; reason = reason } ∷ []) infos
  so_far_left reason now s =
      subst (SoFar fails config w0 w2 (take (i + 1) labels) (left_out ++ record { label = i; reason = reason } ∷ [])) (append-nil infos)
      (so_far_more (left_out_for reason) now s)

  -- one that is drawn
  pub so_far_drawn : (info : LabelInfo) → IsJudged fails w1 w2 config i x (drawn_as info) → SoFar fails config w0 w1 (take i labels) left_out infos
      → SoFar fails config w0 w2 (take (i + 1) labels) left_out (infos ++ info ∷ [])
  so_far_drawn info now s =
      subst (λ xs. SoFar fails config w0 w2 (take (i + 1) labels) xs (infos ++ info ∷ [])) (append-nil left_out) (so_far_more (drawn_as info) now s)

-- one label more whose source is held
module _ {S Id E : Type 0} (fails : Id → E → Type 0) (config : ConfigFields) (id_of : S → Id) (start_of end_of : S → ℕ) (eq : Id → Id → Bool)
    (laws : IsEquivalence eq) (na nb : Id → Option (List ℕ)) (a b : List (Id × Listing)) (labels : List (LabelFields S)) (i : ℕ) (x : LabelFields S)
    (there : i < length labels) (is : x ≡ get_or labels i x) (forward : start_of x.span ≤ end_of x.span) (early : Grows eq a b)
    (left_out : List (LeftOut E)) (infos : List LabelInfo) (source : Listing)
    (at_source : IsSourceAt (world id_of start_of end_of eq nb b) labels i source)
    (before : SoFar fails config (world id_of start_of end_of eq na a) (world id_of start_of end_of eq nb b) (take i labels) left_out infos) where
  -- that source
  found : held eq b (id_of x.span) ≡ Some source
  found = at_source x (slice_get-get_or labels i x there ∙ ap Some (sym is))

  -- it is accepted
  pub so_far_accepted : (info : LabelInfo) → verdict config source i x (start_of x.span) (end_of x.span) ≡ Accepted info
      → SoFar fails config (world id_of start_of end_of eq na a) (world id_of start_of end_of eq nb b) (take (i + 1) labels) left_out (infos ++ info ∷ [])
  so_far_accepted info v =
      so_far_drawn fails config id_of start_of end_of eq laws na nb nb a b b labels i x there is forward early (λ q h. refl) left_out infos info
      (subst (λ o. IsSomeAnd o (λ s. verdict_in (world id_of start_of end_of eq nb b) config i x s ≡ Accepted info)) (sym found) v) before

  -- it begins or ends past its source
  pub so_far_past : verdict config source i x (start_of x.span) (end_of x.span) ≡ past
      → SoFar fails config (world id_of start_of end_of eq na a) (world id_of start_of end_of eq nb b) (take (i + 1) labels)
      (left_out ++ record { label = i; reason = PastSource } ∷ []) infos
  so_far_past v =
      so_far_left fails config id_of start_of end_of eq laws na nb nb a b b labels i x there is forward early (λ q h. refl) left_out infos PastSource
      (subst (λ o. IsSomeAnd o (λ s. verdict_in (world id_of start_of end_of eq nb b) config i x s ≡ past)) (sym found) v) before

  -- one of its ends lies inside a character
  pub so_far_cuts : verdict config source i x (start_of x.span) (end_of x.span) ≡ cuts
      → SoFar fails config (world id_of start_of end_of eq na a) (world id_of start_of end_of eq nb b) (take (i + 1) labels)
      (left_out ++ record { label = i; reason = CutsCharacter } ∷ []) infos
  so_far_cuts v =
      so_far_left fails config id_of start_of end_of eq laws na nb nb a b b labels i x there is forward early (λ q h. refl) left_out infos CutsCharacter
      (subst (λ o. IsSomeAnd o (λ s. verdict_in (world id_of start_of end_of eq nb b) config i x s ≡ cuts)) (sym found) v) before

-- the source of a label is that of another whose id is equal
pub source_alike : {S Id : Type 0} (id_of : S → Id) (start_of end_of : S → ℕ) (eq : Id → Id → Bool) → IsEquivalence eq
    → (names : Id → Option (List ℕ)) (contents : List (Id × Listing)) (p q : Id) (source : Listing) → eq p q ≡ true
    → held eq contents q ≡ Some source → held eq contents p ≡ Some source
source_alike id_of start_of end_of eq laws names contents p q source same is = lookup_congr eq laws.congr contents p q same ∙ is

-- what is not different is equal
pub was_equal : (b : Bool) → false ≡ not b → b ≡ true
was_equal true h = refl
was_equal false h = cc
