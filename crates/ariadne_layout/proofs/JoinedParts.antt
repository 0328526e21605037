-- Parts that meet are joined, and parts are put in order: the same is seen of a line.
use Rattle.std.proofs.Common.{◌≡◌, ◌∙◌, ℕ, zero, suc, ◌+◌, ◌-◌, ◌<◌, ◌≤◌, max, min, Bool, true, false, List, [], ◌∷◌, ◌++◌, length, get_or, slice_get, map, take, drop, set}
use Rattle.std.proofs.Common.{Some, Result, Ok, Err, OnOk, refl, sym, ap, arith, inl, inr, subst}
use Rattle.std.specs.Prelude.{not, ◌&&◌, ◌||◌, nat_le, nat_lt, if◌then◌else◌}
use Rattle.std.specs.List.{All, list_all, list_any, prefix_len}
use Rattle.std.specs.List.Sorted.{IsNonDecreasingBy, IsPermutation}
use Rattle.std.proofs.lemmas.Bool.{cases_lt, cond_both, cond-true, le-leb, lt-leb, lt-ltb, le-ltb, and_from, and_left, and_right, true≢false}
use Rattle.std.proofs.lemmas.List.Elements.{All-from_get_or, All-get_or, All-map}
use Rattle.std.proofs.lemmas.List.{length-append, set_split, take_all, take_more}
use Rattle.std.proofs.lemmas.List.Folds.{list_any-append}
use Rattle.std.proofs.lemmas.List.Sorted.{All-permutation, list_any-IsPermutation, IsPermutation-map, length_permutation}
use Rattle.std.proofs.lemmas.Option.{slice_get_within, get_or_from_slice_get, none-some}
use Rattle.ariadne_base.specs.Locations.{upto}
use Rattle.ariadne_picture.specs.declared.label_info.LineLabel.{LineLabel}
use Rattle.ariadne_picture.specs.declared.sight.Part.{Part}
use Rattle.ariadne_picture.specs.declared.sight.Sight.TheVariants.{Seen, Marked, Unseen}
use Rattle.ariadne_picture.specs.declared.switches.Switches.{Switches}
use Rattle.ariadne_picture.specs.Lists.{total}
use Rattle.ariadne_picture.specs.Ranks.{is_inline}
use Rattle.ariadne_picture.specs.Columns.{columns_of, context, cut_columns, fits_with, is_in, is_too_wide, letter_start, needed_parts, parts_of, sight_in, sights_of}
use Rattle.ariadne_picture.specs.Columns.{whole_width, widened, widened_part, or_begin, needed_labels, place_part, span_part}
use Rattle.ariadne_layout.specs.Cuts.{AreApart, AreFrom, AreSeenAlike, BeginBy, HasPlace, end_of, label_part, needed, sights_in}
use Rattle.ariadne_layout.proofs.CutParts.{needed-places, needed-spans, start-up, widened-more, widened-some}

-- ---- the same is seen

-- a part has a place
abbrev has : Part → ℕ → Bool
has p k = nat_le p.from k && nat_lt k p.to

-- a part ends behind a place
abbrev later : ℕ → Part → Bool
later k p = nat_lt k p.to

pub alike-trans : (xs ys zs : List Part) → AreSeenAlike xs ys → AreSeenAlike ys zs → AreSeenAlike xs zs
alike-trans xs ys zs a b = λ k. ((a k).0 ∙ (b k).0, (a k).1 ∙ (b k).1)

-- with more parts behind
pub alike-append : (xs ys zs : List Part) → AreSeenAlike xs ys → AreSeenAlike (xs ++ zs) (ys ++ zs)
unfolding is_in
alike-append xs ys zs a = λ k. (
  list_any-append (λ p. has p k) xs zs ∙ ap (λ b. b || is_in zs k) (a k).0 ∙ sym (list_any-append (λ p. has p k) ys zs),
  list_any-append (later k) xs zs ∙ ap (λ b. b || list_any (later k) zs) (a k).1 ∙ sym (list_any-append (later k) ys zs),
)

-- in another order
pub alike-permutation : (xs ys : List Part) → IsPermutation xs ys → AreSeenAlike xs ys
unfolding is_in
alike-permutation xs ys p = λ k. (list_any-IsPermutation (λ p. has p k) xs ys p, list_any-IsPermutation (later k) xs ys p)

-- not both are two that are not
neither : (a b : Bool) → (not a && not b) ≡ not (a || b)
neither true b = refl
neither false b = refl

-- a part ends at a place or before, or behind it
ends : (p : Part) (k : ℕ) → nat_le p.to k ≡ not (later k p)
ends p k = elim (cases_lt k p.to) [
  | inl behind ↦ lt-leb p.to k behind ∙ sym (ap not (lt-ltb k p.to behind))
  | inr before ↦ le-leb p.to k before ∙ sym (ap not (le-ltb k p.to before))
]

-- all do, or one doesn't
all-end : (xs : List Part) (k : ℕ) → list_all (λ (p : Part). nat_le p.to k) xs ≡ not (list_any (later k) xs)
all-end [] k = refl
all-end (x ∷ xs) k = (λ i. ends x k i && all-end xs k i) ∙ neither (later k x) (list_any (later k) xs)

-- so the same is seen of each place
pub alike-sight : (xs ys : List Part) (k : ℕ) → AreSeenAlike xs ys → sight_in xs k ≡ sight_in ys k
unfolding sight_in
alike-sight xs ys k a =
    let last : list_all (λ (p : Part). nat_le p.to k) xs ≡ list_all (λ (p : Part). nat_le p.to k) ys =
    all-end xs k ∙ ap not (a k).1 ∙ sym (all-end ys k) in
    λ i. if (a k).0 i then Seen else if (a (k + 1)).0 i || (nat_lt 0 k && (a (k - 1)).0 i && last i) then Marked else Unseen

-- and the columns are the same
pub alike-columns : (s : Switches) (text : List ℕ) (xs ys : List Part) → AreSeenAlike xs ys → cut_columns s text xs ≡ cut_columns s text ys
unfolding cut_columns
alike-columns s text xs ys a =
    λ i. total (λ k. columns_of s.char_set (alike-sight xs ys k a i) (whole_width s.tab_width text k)) (upto (length text))

-- ---- parts in another order

-- with as many places more they fit alike
pub fits-alike : (s : Switches) (text : List ℕ) (xs ys : List Part) (n : ℕ) → IsPermutation xs ys → fits_with s text xs n ≡ fits_with s text ys n
unfolding fits_with widened
fits-alike s text xs ys n p =
    let wide = alike-permutation (map (widened_part s.tab_width text n) xs) (map (widened_part s.tab_width text n) ys)
    (IsPermutation-map (widened_part s.tab_width text n) xs ys p) in
    ap (λ m. nat_le m s.width) (alike-columns s text _ _ wide)

-- so as many places more are shown
pub context-alike : (s : Switches) (text : List ℕ) (xs ys : List Part) → IsPermutation xs ys → context s text xs ≡ context s text ys
unfolding context
context-alike s text xs ys p = λ i. prefix_len (λ n. fits-alike s text xs ys n p i) (upto (length text)) - 1

-- a list of parts that fits tells whether they do
pub fits-told : (s : Switches) (text : List ℕ) (list seen needed given : List Part) (n : ℕ) (r : Bool) → seen ≡ list → given ≡ needed
    → AreSeenAlike list (widened s.tab_width text n given) → r ≡ nat_le (cut_columns s text seen) s.width → r ≡ fits_with s text needed n
unfolding fits_with
fits-told s text list seen needed given n r same is a told =
    told ∙ ap (λ ps. nat_le (cut_columns s text ps) s.width) same
    ∙ ap (λ m. nat_le m s.width) (alike-columns s text list (widened s.tab_width text n given) a)
    ∙ ap (λ ps. nat_le (cut_columns s text (widened s.tab_width text n ps)) s.width) is

-- ---- one part more

-- the last of some parts, with those before it
last-split : (xs : List Part) (n : ℕ) (x : Part) → n ≡ length xs → slice_get xs (n - 1) ≡ Some x
    → (xs ≡ take (n - 1) xs ++ x ∷ []) × ((q : Part) → set xs (n - 1) q ≡ take (n - 1) xs ++ q ∷ [])
last-split xs n x size last =
    let k = n - 1 in
    let within = slice_get_within xs k x last in
    let z : k + 1 ≡ length xs = omega (arith, within, size) in
    let whole : take (k + 1) xs ≡ xs = take_all (k + 1) xs (omega (arith, z)) in
    let front = take k xs in (
      sym whole ∙ take_more xs k x within ∙ ap (λ y. front ++ y ∷ []) (get_or_from_slice_get xs k x x last),
      λ q. set_split xs k q within ∙ ap (λ t. front ++ q ∷ t) (none-left xs k (omega (arith, z))),
    )
  where
    none-left : (xs : List Part) (n : ℕ) → length xs ≤ suc n → drop (suc n) xs ≡ []
    none-left [] n past = refl
    none-left (x ∷ []) zero past = refl
    none-left (x ∷ y ∷ xs) zero past = absurd (omega (arith, past))
    none-left (x ∷ xs) (suc n) past = none-left xs n (omega (arith, past))

-- so it is found
last-is : (xs : List Part) (n : ℕ) (x : Part) → n ≡ length xs → slice_get xs (n - 1) ≡ Some x → slice_get xs (length xs - 1) ≡ Some x
last-is xs n x size last = ap (λ m. slice_get xs (m - 1)) (sym size) ∙ last

-- it stays as it is
pub kept : (xs : List Part) (n : ℕ) (x : Part) → n ≡ length xs → slice_get xs (n - 1) ≡ Some x → set xs (n - 1) x ≡ xs
kept xs n x size last = let parts = last-split xs n x size last in parts.1 x ∙ sym parts.0

-- one part for two that meet
joined-has : (p q : Part) (k : ℕ) → p.from ≤ q.from → q.from ≤ p.to → (nat_le p.from k && nat_lt k (max p.to q.to)) ≡ (has p k || has q k)
joined-has p q k order meet = elim (cases_lt k p.from) [
  | inl before ↦
      let here : has p k ≡ false = and_left (nat_le p.from k) (nat_lt k p.to) (lt-leb p.from k before) in
      let there : has q k ≡ false = and_left (nat_le q.from k) (nat_lt k q.to) (lt-leb q.from k (omega (arith, before, order))) in
      and_left (nat_le p.from k) (nat_lt k (max p.to q.to)) (lt-leb p.from k before) ∙ sym (λ i. here i || there i)
  | inr from ↦ elim (cases_lt k p.to) [
    | inl within ↦
        let here : has p k ≡ true = and_from (nat_le p.from k) (nat_lt k p.to) (le-leb p.from k from) (lt-ltb k p.to within) in
        and_from (nat_le p.from k) (nat_lt k (max p.to q.to)) (le-leb p.from k from) (lt-ltb k (max p.to q.to) (omega (arith, within)))
        ∙ sym (ap (λ b. b || has q k) here)
    | inr behind ↦
        let here : has p k ≡ false = and_right (nat_le p.from k) (nat_lt k p.to) (le-ltb k p.to behind) in
        elim (cases_lt k q.to) [
          | inl within ↦
              let there : has q k ≡ true = and_from (nat_le q.from k) (nat_lt k q.to) (le-leb q.from k (omega (arith, behind, meet))) (lt-ltb k q.to within) in
              and_from (nat_le p.from k) (nat_lt k (max p.to q.to)) (le-leb p.from k from) (lt-ltb k (max p.to q.to) (omega (arith, within)))
              ∙ sym (λ i. here i || there i)
          | inr past ↦
              let there : has q k ≡ false = and_right (nat_le q.from k) (nat_lt k q.to) (le-ltb k q.to past) in
              and_right (nat_le p.from k) (nat_lt k (max p.to q.to)) (le-ltb k (max p.to q.to) (omega (arith, behind, past)))
              ∙ sym (λ i. here i || there i)
        ]
  ]
]

-- it ends where the later of them does
joined-later : (a b k : ℕ) → nat_lt k (max a b) ≡ (nat_lt k a || nat_lt k b)
joined-later a b k = elim (cases_lt k a) [
  | inl first ↦ lt-ltb k (max a b) (omega (arith, first)) ∙ sym (ap (λ c. c || nat_lt k b) (lt-ltb k a first))
  | inr past ↦ elim (cases_lt k b) [
    | inl second ↦ lt-ltb k (max a b) (omega (arith, second)) ∙ sym (λ i. le-ltb k a past i || lt-ltb k b second i)
    | inr behind ↦ le-ltb k (max a b) (omega (arith, past, behind)) ∙ sym (λ i. le-ltb k a past i || le-ltb k b behind i)
  ]
]

-- a test that a list's last element passes, or one before it
any-last : (test : Part → Bool) (front : List Part) (x : Part) → list_any test (front ++ x ∷ []) ≡ (list_any test front || test x)
any-last test [] x = no-more (test x)
  where
    no-more : (b : Bool) → (b || false) ≡ (false || b)
    no-more true = refl
    no-more false = refl
any-last test (y ∷ front) x = ap (λ b. test y || b) (any-last test front x) ∙ turn (test y) (list_any test front) (test x)
  where
    turn : (a b c : Bool) → (a || (b || c)) ≡ ((a || b) || c)
    turn true b c = refl
    turn false b c = refl

either-last : (a b c d : Bool) → d ≡ (b || c) → (a || d) ≡ ((a || b) || c)
either-last true b c d e = refl
either-last false b c d e = e

pub joined-alike : (xs : List Part) (n : ℕ) (p q : Part) (to : ℕ) → n ≡ length xs → slice_get xs (n - 1) ≡ Some p → BeginBy xs q.from
    → q.from ≤ p.to → to ≡ max p.to q.to → AreSeenAlike (set xs (n - 1) (record { from = p.from; to = to })) (xs ++ q ∷ [])
unfolding is_in
joined-alike xs n p q to size last order meet most = λ k.
    let front = take (n - 1) xs in
    let parts = last-split xs n p size last in
    let wide : Part = record { from = p.from; to = to } in
    let is : set xs (n - 1) wide ≡ front ++ wide ∷ [] = parts.1 wide in
    let one : has wide k ≡ (has p k || has q k) =
    ap (λ m. nat_le p.from k && nat_lt k m) most ∙ joined-has p q k (order p (last-is xs n p size last)) meet in
    let two : later k wide ≡ (later k p || later k q) = ap (λ m. nat_lt k m) most ∙ joined-later p.to q.to k in (
      ap (λ ps. list_any (λ r. has r k) ps) is ∙ any-last (λ r. has r k) front wide
          ∙ either-last (list_any (λ r. has r k) front) (has p k) (has q k) (has wide k) one
          ∙ sym (ap (λ ps. list_any (λ r. has r k) (ps ++ q ∷ [])) parts.0 ∙ any-last (λ r. has r k) (front ++ p ∷ []) q
          ∙ ap (λ b. b || has q k) (any-last (λ r. has r k) front p)),
      ap (list_any (later k)) is ∙ any-last (later k) front wide ∙ either-last (list_any (later k) front) (later k p) (later k q) (later k wide) two
          ∙ sym (ap (λ ps. list_any (later k) (ps ++ q ∷ [])) parts.0 ∙ any-last (later k) (front ++ p ∷ []) q
          ∙ ap (λ b. b || later k q) (any-last (later k) front p)),
    )

-- parts stay apart where the last ends later
grown-apart : (n : ℕ) (front : List Part) (p : Part) (to : ℕ) → p.to ≤ to → AreFrom n (front ++ p ∷ []) → AreFrom n (front ++ record { from = p.from; to = to } ∷ [])
unfolding AreFrom
grown-apart n [] p to up apart = (apart.0, omega (arith, apart.1, up), tt)
grown-apart n (x ∷ front) p to up apart = (apart.0, apart.1, grown-apart (x.to + 1) front p to up apart.2)

pub joined-apart : (xs : List Part) (n : ℕ) (p q : Part) (to : ℕ) → n ≡ length xs → slice_get xs (n - 1) ≡ Some p → to ≡ max p.to q.to
    → AreApart xs → AreApart (set xs (n - 1) (record { from = p.from; to = to }))
joined-apart xs n p q to size last most apart =
    let front = take (n - 1) xs in
    let parts = last-split xs n p size last in
    subst AreApart (sym (parts.1 (record { from = p.from; to = to })))
    (grown-apart 0 front p to (omega (arith, most)) (subst AreApart parts.0 apart))

-- what is pushed is the last
pushed-at : (front : List Part) (x d : Part) → get_or (front ++ x ∷ []) (length front) d ≡ x
pushed-at [] x d = refl
pushed-at (y ∷ front) x d = pushed-at front x d

pushed-last : (front : List Part) (x : Part) (ys : List Part) (r : Part) → ys ≡ front ++ x ∷ [] → slice_get ys (length ys - 1) ≡ Some r → r ≡ x
pushed-last front x ys r is there =
    let z : slice_get (front ++ x ∷ []) (length (front ++ x ∷ []) - 1) ≡ Some r = subst (λ ts. slice_get ts (length ts - 1) ≡ Some r) is there in
    let more = length-append front (x ∷ []) in
    let n : length (front ++ x ∷ []) - 1 ≡ length front = omega (arith, more) in
    sym (get_or_from_slice_get (front ++ x ∷ []) (length front) r x (ap (slice_get (front ++ x ∷ [])) (sym n) ∙ z)) ∙ pushed-at front x x

-- the last of the joined parts
pub joined-last : (xs : List Part) (n : ℕ) (p q : Part) (to : ℕ) → n ≡ length xs → slice_get xs (n - 1) ≡ Some p → BeginBy xs q.from
    → BeginBy (set xs (n - 1) (record { from = p.from; to = to })) q.from
joined-last xs n p q to size last order = λ r there.
    let wide : Part = record { from = p.from; to = to } in
    let parts = last-split xs n p size last in
    let from = ap (λ (x : Part). x.from) (pushed-last (take (n - 1) xs) wide (set xs (n - 1) wide) r (parts.1 wide) there) in
    let low = order p (last-is xs n p size last) in
    omega (arith, from, low)

pub pushed-order : (xs ys : List Part) (q : Part) → ys ≡ xs ++ q ∷ [] → BeginBy ys q.from
pushed-order xs ys q is = λ r there. let same = ap (λ (p : Part). p.from) (pushed-last xs q ys r is there) in omega (arith, same)

-- a part behind the last stands apart
behind-apart : (n e : ℕ) (xs : List Part) (q : Part) → n ≤ e + 1 → AreFrom n xs → end_of e xs < q.from → q.from < q.to → AreFrom n (xs ++ q ∷ [])
unfolding AreFrom end_of
behind-apart n e [] q up apart behind some = (omega (arith, up, behind), some, tt)
behind-apart n e (x ∷ xs) q up apart behind some = (apart.0, apart.1, behind-apart (x.to + 1) x.to xs q (omega arith) apart.2 behind some)

-- where the last ends
end-last : (e : ℕ) (front : List Part) (p : Part) → end_of e (front ++ p ∷ []) ≡ p.to
unfolding end_of
end-last e [] p = refl
end-last e (x ∷ front) p = end-last x.to front p

pub pushed-apart : (xs ys : List Part) (n : ℕ) (p q : Part) → n ≡ length xs → slice_get xs (n - 1) ≡ Some p → p.to < q.from → HasPlace q
    → ys ≡ xs ++ q ∷ [] → AreApart xs → AreApart ys
pushed-apart xs ys n p q size last behind some new apart =
    let parts = last-split xs n p size last in
    let end = ap (end_of 0) parts.0 ∙ end-last 0 (take (n - 1) xs) p in
    subst AreApart (sym new) (behind-apart 0 0 xs q (omega arith) apart (omega (arith, end, behind)) some)

-- so does the first
pub first-apart : (xs ys : List Part) (n : ℕ) (q : Part) → n ≡ length xs → (0 < n → false ≡ true) → HasPlace q → ys ≡ xs ++ q ∷ [] → AreApart ys
unfolding AreFrom
first-apart [] ys n q size none some new = subst AreApart (sym new) (omega arith, some, tt)
first-apart (x ∷ xs) ys n q size none some new = absurd (true≢false (sym (none (omega (arith, size)))))

pub pushed-alike : (xs ys : List Part) (q : Part) → ys ≡ xs ++ q ∷ [] → AreSeenAlike ys (xs ++ q ∷ [])
unfolding is_in
pushed-alike xs ys q new = λ k. (ap (λ ps. is_in ps k) new, ap (list_any (later k)) new)

-- ---- all of them

-- the first i of some parts are widened by n places and joined; the last of these begins no later than those to come
pub record AreWidened (t : ℕ) (text : List ℕ) (n i : ℕ) (needed list : List Part) : Type 0 where
  pub apart : AreApart list
  pub alike : AreSeenAlike list (widened t text n (take i needed))
  pub order : (j : ℕ) (d : Part) → i ≤ j → j < length needed → BeginBy list (letter_start t text ((get_or needed j d).from - n))

-- none at first
pub widened-none : (t : ℕ) (text : List ℕ) (n : ℕ) (needed list : List Part) → list ≡ [] → AreWidened t text n 0 needed list
unfolding AreFrom widened
widened-none t text n needed list none = subst (AreWidened t text n 0 needed) (sym none) (record {
  apart = tt;
  alike = λ k. (refl, refl);
  order = λ j d low high p there. absurd (none-some p there);
})

-- then one more
pub widened-step : (t : ℕ) (text : List ℕ) (n i : ℕ) (d : Part) (needed list new : List Part) (wide : Part) → IsNonDecreasingBy (λ (p : Part). p.from) needed
    → All HasPlace needed → i < length needed → AreWidened t text n i needed list → wide ≡ widened_part t text n (get_or needed i d)
    → (AreApart list → BeginBy list wide.from → HasPlace wide → AreApart new) → (BeginBy list wide.from → AreSeenAlike new (list ++ wide ∷ []))
    → (BeginBy list wide.from → BeginBy new wide.from) → AreWidened t text n (i + 1) needed new
unfolding widened_part
widened-step t text n i d needed list new wide sorted places below sofar is apart alike order =
    let from : wide.from ≡ letter_start t text ((get_or needed i d).from - n) = ap (λ (p : Part). p.from) is in
    let low : BeginBy list wide.from = λ p there. let first = sofar.order i d (omega arith) below p there in omega (arith, first, from) in
    let some : HasPlace wide = widened-some t text n (get_or needed i d) wide is (All-get_or HasPlace needed i d below places) in
    let front = widened t text n (take i needed) in
    let one : front ++ wide ∷ [] ≡ widened t text n (take (i + 1) needed) = ap (λ p. front ++ p ∷ []) is ∙ widened-more t text n needed i d below in
    record {
      apart = apart sofar.apart low some;
      alike = subst (AreSeenAlike new) one (alike-trans new (list ++ wide ∷ []) (front ++ wide ∷ []) (alike low) (alike-append list front (wide ∷ []) sofar.alike));
      order = λ j e later within p there.
          let first = order low p there in
          let up = sorted i j d (omega (arith, later)) within in
          let same = ap (λ (q : Part). q.from) (get_or_default needed j d e within) in
          let next = start-up t text ((get_or needed i d).from - n) ((get_or needed j e).from - n) (omega (arith, up, same)) in
          omega (arith, first, from, next);
    }
  where
    get_or_default : (xs : List Part) (j : ℕ) (d e : Part) → j < length xs → get_or xs j d ≡ get_or xs j e
    get_or_default [] j d e within = absurd (omega (arith, within))
    get_or_default (x ∷ xs) zero d e within = refl
    get_or_default (x ∷ xs) (suc j) d e within = get_or_default xs j d e (omega (arith, within))

-- in the end they all are
pub widened-alike : (t : ℕ) (text : List ℕ) (n i : ℕ) (needed list : List Part) → length needed ≤ i → AreWidened t text n i needed list
    → AreSeenAlike list (widened t text n needed)
widened-alike t text n i needed list all done = subst (λ ps. AreSeenAlike list (widened t text n ps)) (take_all i needed all) done.alike

-- ---- what has to be shown, in order

-- a label's part has a place
label-some : (spans : Bool) (o : ℕ) (x : LineLabel) → HasPlace (label_part spans o x)
unfolding label_part span_part place_part
label-some false o x = omega arith
label-some true o x =
    let spanned : Part = record { from = min (x.info.start - o) x.place; to = max (x.info.end - o) (x.place + 1) } in
    let placed : Part = record { from = x.place; to = x.place + 1 } in
    cond_both (is_inline x.side) spanned placed HasPlace (λ _. omega arith) (λ _. omega arith)

-- so do the first place and all of a list
begin-some : (parts : List Part) → All HasPlace parts → All HasPlace (or_begin parts)
unfolding or_begin
begin-some [] each = All-from_get_or HasPlace (first ∷ []) first only
  where
    first : Part
    first = record { from = 0; to = 1 }

    only : (i : ℕ) → i < 1 → HasPlace (get_or (first ∷ []) i first)
    only zero below = omega arith
    only (suc i) below = absurd (omega (arith, below))
begin-some (p ∷ parts) each = each

needed-some : (spans : Bool) (o : ℕ) (labels : List LineLabel) → All HasPlace (needed spans o labels)
needed-some spans o labels =
    let kept = needed_labels labels in
    begin-some (map (label_part spans o) kept) (All-map HasPlace (label_part spans o) kept (λ k d below. label-some spans o (get_or kept k d)))

pub ordered-some : (spans : Bool) (o : ℕ) (labels : List LineLabel) (list sorted : List Part) → list ≡ needed spans o labels → IsPermutation list sorted
    → All HasPlace sorted
ordered-some spans o labels list sorted is same =
    All-permutation HasPlace list sorted same (subst (All HasPlace) (sym is) (needed-some spans o labels))

pub ordered-needed : (spans : Bool) (o : ℕ) (labels : List LineLabel) (list sorted : List Part) → list ≡ needed spans o labels → IsPermutation list sorted
    → IsPermutation (needed spans o labels) sorted
ordered-needed spans o labels list sorted is same = subst (λ ps. IsPermutation ps sorted) is same

-- what the labels span, if it fits
pub spans-needed : (s : Switches) (o : ℕ) (labels : List LineLabel) (text : List ℕ) (list new : List Part) (r : Bool) → IsPermutation (needed true o labels) list
    → new ≡ list → r ≡ fits_with s text list 0 → r ≡ true → IsPermutation (needed_parts s o labels text) new
spans-needed s o labels text list new r same is told fits =
    let all = needed-spans s o labels text (needed true o labels) refl (fits-alike s text (needed true o labels) list 0 same ∙ sym told ∙ fits) in
    subst (λ ps. IsPermutation (needed_parts s o labels text) ps) (sym is) (subst (λ ps. IsPermutation ps list) all same)

-- or else the places alone
pub places-needed : (s : Switches) (o : ℕ) (labels : List LineLabel) (text : List ℕ) (spans list : List Part) (r : Bool)
    → IsPermutation (needed true o labels) spans → r ≡ fits_with s text spans 0 → r ≡ false → IsPermutation (needed false o labels) list
    → IsPermutation (needed_parts s o labels text) list
places-needed s o labels text spans list r same told off places =
    let all = needed-places s o labels text (needed true o labels) (needed false o labels) refl
    (fits-alike s text (needed true o labels) spans 0 same ∙ sym told ∙ off) refl in
    subst (λ ps. IsPermutation ps list) all places

-- there are some
begin-more : (parts : List Part) → 0 < length (or_begin parts)
unfolding or_begin
begin-more [] = omega arith
begin-more (p ∷ parts) = omega arith

pub needed-more : (s : Switches) (o : ℕ) (labels : List LineLabel) (text : List ℕ) (sorted : List Part) → IsPermutation (needed_parts s o labels text) sorted
    → 0 < length sorted
unfolding needed_parts
needed-more s o labels text sorted same =
    let spans = or_begin (map (span_part o) (needed_labels labels)) in
    let places = or_begin (map place_part (needed_labels labels)) in
    let some : 0 < length (needed_parts s o labels text) =
    cond_both (fits_with s text spans 0) spans places (λ ps. 0 < length ps) (λ _. begin-more (map (span_part o) (needed_labels labels)))
    (λ _. begin-more (map place_part (needed_labels labels))) in
    let size = length_permutation (needed_parts s o labels text) sorted same in
    omega (arith, some, size)

-- ---- what is seen of a line

-- a line without parts is not cut
pub none-apart : (parts : List Part) → parts ≡ [] → AreApart parts
unfolding AreFrom
none-apart parts none = subst AreApart (sym none) tt

-- one that is too wide has the parts that have to be shown, with as many places more as fit
pub cut-listed : (s : Switches) (o : ℕ) (labels : List LineLabel) (text : List ℕ) (sorted parts : List Part) (n : ℕ) → is_too_wide s text ≡ true
    → IsPermutation (needed_parts s o labels text) sorted → n ≡ context s text sorted → AreSeenAlike parts (widened s.tab_width text n sorted)
    → 0 < length parts → sights_in parts (length text) ≡ sights_of s o labels text
unfolding sights_of sights_in parts_of widened
cut-listed s o labels text sorted [] n on same more alike some = absurd (omega (arith, some))
cut-listed s o labels text sorted (p ∷ parts) n on same more alike some =
    let needed = needed_parts s o labels text in
    let number : n ≡ context s text needed = more ∙ sym (context-alike s text needed sorted same) in
    let wide : ℕ → List Part → List Part = λ m ps. map (widened_part s.tab_width text m) ps in
    let ordered : AreSeenAlike (wide (context s text needed) needed) (wide (context s text needed) sorted) =
    alike-permutation _ _ (IsPermutation-map (widened_part s.tab_width text (context s text needed)) needed sorted same) in
    let each : (k : ℕ) → sight_in (p ∷ parts) k ≡ sight_in (parts_of s o labels text) k = λ k.
    alike-sight (p ∷ parts) (wide (context s text needed) sorted) k (subst (λ m. AreSeenAlike (p ∷ parts) (wide m sorted)) number alike)
    ∙ sym (alike-sight (wide (context s text needed) needed) (wide (context s text needed) sorted) k ordered) in
    (λ i. map (λ k. each k i) (upto (length text))) ∙ sym (cond-true (is_too_wide s text) _ [] on)

-- both of two facts
pub cut-found : {E : Type 0} (r : Result (Unit {0}) E) (s : Switches) (o : ℕ) (labels : List LineLabel) (text : List ℕ) (sorted parts : List Part) (n : ℕ)
    → is_too_wide s text ≡ true → IsPermutation (needed_parts s o labels text) sorted → n ≡ context s text sorted
    → OnOk r (AreSeenAlike parts (widened s.tab_width text n sorted)) → OnOk r (0 < length parts)
    → OnOk r (sights_in parts (length text) ≡ sights_of s o labels text)
cut-found (Ok u) s o labels text sorted parts n on same more alike some = cut-listed s o labels text sorted parts n on same more alike some
cut-found (Err e) s o labels text sorted parts n on same more alike some = tt
