-- What one more label changes of what is shown from an offset on.
use Rattle.std.proofs.Common.{◌≡◌, ℕ, ◌+◌, ◌-◌, ◌^◌, ◌<◌, ◌≤◌, Bool, true, false, cond, List, [], ◌∷◌, ◌++◌, Option, Some, None, filter, option_copied, min, Bor, length, take, get_or, map, slice_get}
use Rattle.std.proofs.Common.{refl, sym, ap, ◌∙◌, subst, arith}
use Rattle.std.specs.List.{filter_map, cons_option}
use Rattle.std.proofs.lemmas.Bool.{cond-true, cond-false}
use Rattle.std.proofs.lemmas.Bool.Decides.{nat_tests}
use Rattle.std.proofs.lemmas.List.{append-nil, append_assoc, map_more, map-append, take_more}
use Rattle.std.proofs.lemmas.List.Elements.{filter-append, filter_more, filter_map-append}
use Rattle.std.proofs.lemmas.List.Sums.{fold_push}
use Rattle.std.proofs.lemmas.Option.{slice_get-get_or}
use Rattle.ariadne_picture.specs.declared.label_info.LabelInfo.{LabelInfo}
use Rattle.ariadne_picture.specs.declared.label_info.LineLabel.{LineLabel}
use Rattle.ariadne_picture.specs.Lists.{best}
use Rattle.ariadne_picture.specs.Ranks.{is_inline}
use Rattle.ariadne_picture.specs.Strokes.{holds, is_preferred}
use Rattle.ariadne_picture.proofs.Lists.ListFacts.{all-append}
use Rattle.ariadne_layout.specs.declared.choice.Choice.{Choice}
use Rattle.ariadne_layout.specs.Choices.{IsChoice, Considers, infos_of, inline_infos, numbered}

-- the better one of the best so far, if there is one, and one more
abbrev pub better : {X : Type 0} → (X → X → Bool) → Option X → X → Option X
better beats None x = Some x
better beats (Some b) x = Some (cond (beats x b) x b)

-- the best so far stays where one more is not preferred
pub better_kept : (best : Option (Bor LabelInfo)) (b : Bor LabelInfo) (a : LabelInfo) → best ≡ Some b → is_preferred a b.now ≡ false
    → option_copied best ≡ better is_preferred (option_copied best) a
better_kept best b a is worse =
    subst (λ o. option_copied o ≡ better is_preferred (option_copied o) a) (sym is) (ap Some (sym (cond-false (is_preferred a b.now) a b.now worse)))

-- else that one takes its place
pub better_taken : (best : Option (Bor LabelInfo)) (b : Bor LabelInfo) (a : LabelInfo) → best ≡ Some b → is_preferred a b.now ≡ true
    → Some a ≡ better is_preferred (option_copied best) a
better_taken best b a is wins =
    subst (λ o. Some a ≡ better is_preferred (option_copied o) a) (sym is) (ap Some (sym (cond-true (is_preferred a b.now) a b.now wins)))

-- or is the first
pub better_first : (best : Option (Bor LabelInfo)) (a : LabelInfo) → best ≡ None → Some a ≡ better is_preferred (option_copied best) a
better_first best a is = subst (λ o. Some a ≡ better is_preferred (option_copied o) a) (sym is) refl

-- the best of a list and one more is the better one of its best and that one
best_push : {X : Type 0} (beats : X → X → Bool) (xs : List X) (x : X)
    → best beats (xs ++ x ∷ []) ≡ better beats (best beats xs) x
unfolding best
best_push beats [] x = refl
best_push beats (y ∷ ys) x = ap Some (fold_push (λ b z. cond (beats z b) z b) y ys x)

-- so it is, where one more counts only if it passes a test
pub best-filter_push : {X : Type 0} (beats : X → X → Bool) (counts : X → Bool) (xs : List X) (x : X)
    → best beats (filter counts (xs ++ x ∷ [])) ≡ cond (counts x) (better beats (best beats (filter counts xs)) x) (best beats (filter counts xs))
best-filter_push beats counts xs x =
    ap (best beats) (filter-append counts xs (x ∷ []))
    ∙ elim (counts x) as (λ v. best beats (filter counts xs ++ cond v (x ∷ []) []) ≡ cond v (better beats (best beats (filter counts xs)) x)
    (best beats (filter counts xs))) [
      | true ↦ best_push beats (filter counts xs) x
      | false ↦ ap (best beats) (append-nil (filter counts xs))
    ]

-- one more label, if it holds the characters of the stretch or none of them
considered : (old new : Choice) (a : LabelInfo) → new.offset ≡ old.offset → new.len ≤ old.len
    → ((offset : ℕ) → old.offset ≡ min offset (2 ^ 64 - 1) → (0 < old.len → 0 < new.len)
    × ((k : ℕ) → k < new.len → holds a (offset + k) ≡ holds a offset)
    × (option_copied new.best ≡ cond (holds a offset) (better is_preferred (option_copied old.best) a) (option_copied old.best)))
    → Considers old new (a ∷ [])
considered old new a same_offset less step labels offset len h =
    let (goes_on, stays, shows) = step offset h.begins in
    record {
      begins = same_offset ∙ h.begins;
      shows = shows ∙ (λ i. cond (holds a offset) (better is_preferred (h.shows i) a) (h.shows i))
          ∙ sym (best-filter_push is_preferred (λ b. holds b offset) labels a);
      stays = λ k below. all-append (λ b. holds b (offset + k) ≡ holds b offset) labels (a ∷ []) (h.stays k (omega arith)) (stays k below, tt);
      goes_on = λ some. goes_on (h.goes_on some);
      within = let old_within = h.within in omega arith;
    }

-- a label holds what lies between its start and its end
pub holds_inside : (a : LabelInfo) (o : ℕ) → a.start ≤ o → o < a.end → holds a o ≡ true
unfolding holds
holds_inside a o begun goes_on = grind (arith, nat_tests)

-- and nothing before it begins
pub holds_before : (a : LabelInfo) (o : ℕ) → o < a.start → holds a o ≡ false
unfolding holds
holds_before a o before = grind (arith, nat_tests)

-- or from its end on
pub holds_behind : (a : LabelInfo) (o : ℕ) → a.end ≤ o → holds a o ≡ false
unfolding holds
holds_behind a o behind = grind (arith, nat_tests)

-- a label that begins later ends the stretch there
pub considered_before : (old : Choice) (a : LabelInfo) (len : ℕ) → a.start < 2 ^ 64 → old.offset < a.start
    → len ≡ min old.len (a.start - old.offset) → Considers old (record old { len = len }) (a ∷ [])
considered_before old a len fits before is_len =
    considered old (record old { len = len }) a refl (omega arith)
    (λ offset begins.
    let out : holds a offset ≡ false = holds_before a offset (omega arith) in
    (λ h. omega arith, λ k below. holds_before a (offset + k) (omega arith) ∙ sym out, sym (cond-false (holds a offset) _ _ out)))

-- a label that ended earlier changes nothing
pub considered_behind : (old : Choice) (a : LabelInfo) → a.end ≤ old.offset → Considers old old (a ∷ [])
considered_behind old a behind =
    considered old old a refl (omega arith)
    (λ offset begins.
    let out : holds a offset ≡ false = holds_behind a offset (omega arith) in
    (λ h. h, λ k below. holds_behind a (offset + k) (omega arith) ∙ sym out, sym (cond-false (holds a offset) _ _ out)))

-- a label that holds the offset ends the stretch where it ends, and is shown if it is the better one
pub considered_inside : (old : Choice) (a : LabelInfo) (len : ℕ) (shown : Option (Bor LabelInfo)) → a.end < 2 ^ 64 → a.start ≤ old.offset
    → old.offset < a.end → len ≡ min old.len (a.end - old.offset) → option_copied shown ≡ better is_preferred (option_copied old.best) a
    → Considers old (record old { len = len; best = shown }) (a ∷ [])
considered_inside old a len shown fits begun goes_on is_len better_one =
    considered old (record old { len = len; best = shown }) a refl (omega arith)
    (λ offset begins.
    let inside : holds a offset ≡ true = holds_inside a offset (omega arith) (omega arith) in (
      λ h. omega arith,
      λ k below. holds_inside a (offset + k) (omega arith) (omega arith) ∙ sym inside,
      better_one ∙ sym (cond-true (holds a offset) _ _ inside),
    ))

-- ---- several labels

-- no more labels change nothing
pub considers_none : (a : Choice) → Considers a a []
considers_none a labels offset len h = subst (λ t. IsChoice t offset len a) (sym (append-nil labels)) h

-- some labels, and then others
pub considers_both : (a b c : Choice) (xs ys : List LabelInfo) → Considers a b xs → Considers b c ys → Considers a c (xs ++ ys)
considers_both a b c xs ys f g labels offset len h =
    subst (λ t. IsChoice t offset len c) (append_assoc labels xs ys) (g (labels ++ xs) offset len (f labels offset len h))

-- those of the first line labels, and the next one
pub considers_label : (a b c : Choice) (xs : List LineLabel) (i : ℕ) (d : LineLabel) → i < length xs → Considers a b (infos_of (take i xs))
    → Considers b c ((get_or xs i d).info ∷ []) → Considers a c (infos_of (take (i + 1) xs))
unfolding infos_of
considers_label a b c xs i d below f g =
    subst (Considers a c) (sym (map_more (λ (x : LineLabel). x.info) xs i d below)) (considers_both a b c _ _ f g)

-- the same, of those that lie within the line
pub considers_inline : (a b c : Choice) (xs : List LineLabel) (i : ℕ) (d : LineLabel) → i < length xs
    → Considers a b (inline_infos (take i xs)) → is_inline (get_or xs i d).side ≡ true → Considers b c ((get_or xs i d).info ∷ [])
    → Considers a c (inline_infos (take (i + 1) xs))
unfolding inline_infos infos_of
considers_inline a b c xs i d below f is g =
    let infos = map (λ (x : LineLabel). x.info) in
    let first = filter (λ (x : LineLabel). is_inline x.side) (take i xs) in
    let x = get_or xs i d in
    let one_more = filter_more (λ (x : LineLabel). is_inline x.side) xs i d below
    ∙ ap (λ t. first ++ t) (cond-true (is_inline x.side) (x ∷ []) [] is) in
    subst (Considers a c) (sym (ap infos one_more ∙ map-append (λ (x : LineLabel). x.info) first (x ∷ []))) (considers_both a b c (infos first) (x.info ∷ []) f g)

-- and one that does not
pub considers_not_inline : (a b : Choice) (xs : List LineLabel) (i : ℕ) (d : LineLabel) → i < length xs
    → Considers a b (inline_infos (take i xs)) → is_inline (get_or xs i d).side ≡ false → Considers a b (inline_infos (take (i + 1) xs))
unfolding inline_infos infos_of
considers_not_inline a b xs i d below f is =
    let infos = map (λ (x : LineLabel). x.info) in
    let first = filter (λ (x : LineLabel). is_inline x.side) (take i xs) in
    let x = get_or xs i d in
    let no_more = filter_more (λ (x : LineLabel). is_inline x.side) xs i d below
    ∙ ap (λ t. first ++ t) (cond-false (is_inline x.side) (x ∷ []) [] is) ∙ append-nil first in
    subst (Considers a b) (sym (ap infos no_more)) f

-- those of the first numbers, and the next one
pub considers_number : (a b c : Choice) (infos : List LabelInfo) (numbers : List ℕ) (i e : ℕ) (d : LabelInfo) → i < length numbers
    → get_or numbers i e < length infos → Considers a b (numbered infos (take i numbers)) → Considers b c (get_or infos (get_or numbers i e) d ∷ [])
    → Considers a c (numbered infos (take (i + 1) numbers))
unfolding numbered
considers_number a b c infos numbers i e d below within f g =
    let first = take i numbers in
    let n = get_or numbers i e in
    let one_more = ap (filter_map (slice_get infos)) (take_more numbers i e below) ∙ filter_map-append (slice_get infos) first (n ∷ [])
    ∙ ap (λ t. filter_map (slice_get infos) first ++ cons_option t []) (slice_get-get_or infos n d within) in
    subst (Considers a c) (sym one_more) (considers_both a b c (filter_map (slice_get infos) first) (get_or infos n d ∷ []) f g)
