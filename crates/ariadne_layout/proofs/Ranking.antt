-- The margin label and the line labels of a line, found from the labels of its events.
use Rattle.std.proofs.Common.{◌≡◌, ℕ, ◌+◌, ◌<◌, Bool, true, false, not, ◌&&◌, cond, List, [], ◌∷◌, ◌++◌, length, take, get_or, filter, refl, sym, ap, ◌∙◌, inl, inr}
use Rattle.std.specs.Borrow.{Bor}
use Rattle.std.specs.Prelude.{Option, Some, None, MatchOption, IfSome, is_some, option_map, nat_lt, slice_get, option_to_list}
use Rattle.std.specs.Prelude.{Result, Ok, Err, OnOk, IsTrue}
use Rattle.std.specs.List.{AllByRecursion, best_of}
use Rattle.std.proofs.lemmas.Bool.{and_left, not_from_false, cond-true, cond-false, ltb-true, ltb-false, true≢false}
use Rattle.std.proofs.lemmas.List.{append-nil, take_more}
use Rattle.std.proofs.lemmas.Option.{slice_get_past, slice_get_read}
use Rattle.std.proofs.lemmas.List.Elements.{filter-append, filter_more}
use Rattle.ariadne_picture.specs.declared.label_info.LabelInfo.{LabelInfo}
use Rattle.ariadne_picture.specs.declared.label_info.LineLabel.{LineLabel}
use Rattle.ariadne_picture.specs.declared.label_info.Side.TheVariants.{Inline}
use Rattle.ariadne_picture.specs.Report.{default_config, switches_of}
use Rattle.ariadne_picture.specs.Lists.{in_order, best, joined}
use Rattle.ariadne_picture.specs.Ranks.{Sheet, ends_at, inline_labels, is_before, is_inline, is_margin, is_nearer_margin, is_start, line_labels, margin_label}
use Rattle.ariadne_picture.proofs.Labels.LineLabels.{IsEndAt, ends-are}
use Rattle.ariadne_picture.proofs.Labels.Orders.{best-none}
use Rattle.ariadne_picture.proofs.Lists.Joined.{joined-append, joined-one}
use Rattle.ariadne_picture.proofs.Lists.ListFacts.{all-every, all-map, all-weaker, filter-all, filter-none}
use Rattle.ariadne_layout.specs.declared.snippet_labels.Event.{Event}
use Rattle.ariadne_layout.specs.SnippetLabels.{event_label, labels_of, margin_of, ranked}

-- some group with these labels
abbrev pub sheet_of : List LabelInfo → Sheet
sheet_of labels = record { switches = switches_of default_config; lines = []; labels = labels }

-- ---- the best of elements and one more

-- a filter keeps one more that passes
filter-taken : {X : Type 0} (t : X → Bool) (xs : List X) (i : ℕ) (d : X) → i < length xs → t (get_or xs i d) ≡ true
    → filter t (take (i + 1) xs) ≡ filter t (take i xs) ++ get_or xs i d ∷ []
filter-taken t xs i d h pass =
    filter_more t xs i d h ∙ ap (λ ys. filter t (take i xs) ++ ys) (cond-true (t (get_or xs i d)) (get_or xs i d ∷ []) [] pass)

-- the first is the best of one
pub best-alone : {X : Type 0} (beats : X → X → Bool) (xs : List X) (x : X) → best beats xs ≡ None → best beats (xs ++ x ∷ []) ≡ Some x
unfolding best
best-alone beats xs x e = ap (λ t. best beats (t ++ x ∷ [])) (best-none beats xs e)

-- one more is it where it beats the best so far
pub best-more : {X : Type 0} (beats : X → X → Bool) (xs : List X) (b x : X) → best beats xs ≡ Some b
    → best beats (xs ++ x ∷ []) ≡ Some (cond (beats x b) x b)
unfolding best
best-more beats [] b x e = cc
best-more beats (y ∷ ys) b x e =
    let is : best_of beats y ys ≡ b = cc in
    ap Some (best_of-push y ys ∙ ap (λ z. cond (beats x z) x z) is)
  where
    best_of-push : (y : _) (ys : List _) → best_of beats y (ys ++ x ∷ []) ≡ cond (beats x (best_of beats y ys)) x (best_of beats y ys)
    best_of-push y [] = refl
    best_of-push y (z ∷ zs) = best_of-push (cond (beats z y) z y) zs

-- one more that passes a test is it where there was none, or where it beats the best so far
pub best-taken : {X : Type 0} (beats : X → X → Bool) (t : X → Bool) (xs : List X) (i : ℕ) (d : X) (now : Option X) → i < length xs
    → now ≡ best beats (filter t (take i xs)) → t (get_or xs i d) ≡ true
    → MatchOption now (Unit {0}) (λ b. beats (get_or xs i d) b ≡ true) → Some (get_or xs i d) ≡ best beats (filter t (take (i + 1) xs))
best-taken beats t xs i d None h e pass m =
    sym (ap (best beats) (filter-taken t xs i d h pass) ∙ best-alone beats (filter t (take i xs)) (get_or xs i d) (sym e))
best-taken beats t xs i d (Some b) h e pass m =
    sym (ap (best beats) (filter-taken t xs i d h pass) ∙ best-more beats (filter t (take i xs)) b (get_or xs i d) (sym e)
    ∙ ap Some (cond-true (beats (get_or xs i d) b) (get_or xs i d) b m))

-- else the best so far stays
pub best-kept : {X : Type 0} (beats : X → X → Bool) (t : X → Bool) (xs : List X) (i : ℕ) (d : X) (now : Option X) → i < length xs
    → now ≡ best beats (filter t (take i xs)) → t (get_or xs i d) ≡ true
    → MatchOption now ⊥ (λ b. beats (get_or xs i d) b ≡ false) → now ≡ best beats (filter t (take (i + 1) xs))
best-kept beats t xs i d None h e pass m = absurd m
best-kept beats t xs i d (Some b) h e pass m =
    sym (ap (best beats) (filter-taken t xs i d h pass) ∙ best-more beats (filter t (take i xs)) b (get_or xs i d) (sym e)
    ∙ ap Some (cond-false (beats (get_or xs i d) b) (get_or xs i d) b m))

-- and so it does where one more does not pass
pub best-passed : {X : Type 0} (beats : X → X → Bool) (t : X → Bool) (xs : List X) (i : ℕ) (d : X) (now : Option X) → i < length xs
    → now ≡ best beats (filter t (take i xs)) → t (get_or xs i d) ≡ false → now ≡ best beats (filter t (take (i + 1) xs))
best-passed beats t xs i d now h e fail =
    e ∙ ap (best beats) (sym (filter_more t xs i d h
    ∙ ap (λ ys. filter t (take i xs) ++ ys) (cond-false (t (get_or xs i d)) (get_or xs i d ∷ []) [] fail) ∙ append-nil (filter t (take i xs))))

-- ---- the labels of the events of a line: ends of gutter labels, and labels within it

-- the first do not lie within the line
ends-side : (labels : List LabelInfo) (l : ℕ) → AllByRecursion (λ x. is_inline x.side ≡ false) (ends_at labels l)
unfolding is_inline
ends-side labels l =
    all-weaker (IsEndAt (sheet_of labels) l) (λ x. is_inline x.side ≡ false) (ends_at labels l)
    (λ x h. elim h.there [ inl start ↦ ap is_inline start.0 | inr end ↦ ap is_inline end.0 ]) (ends-are (sheet_of labels) l)

-- the others do
inlines-side : (labels : List LabelInfo) (l : ℕ) → AllByRecursion (λ x. x.side ≡ Inline) (inline_labels labels l)
unfolding inline_labels
inlines-side labels l =
    all-map (λ x. x.side ≡ Inline) (λ (a : LabelInfo). record { info = a; side = Inline; gutter_column = 0; place = a.attach }) _
    (all-every (λ (a : LabelInfo). Inline ≡ Inline) (λ a. refl) _)

-- so the margin label is the nearest of those that do not
pub margin-found : (labels : List LabelInfo) (l : ℕ) (all : List LineLabel) → all ≡ ends_at labels l ++ inline_labels labels l
    → margin_of all ≡ margin_label labels l
unfolding margin_of margin_label is_inline
margin-found labels l all e =
    let test : LineLabel → Bool = λ x. not (is_inline x.side) in
    let ends : filter test (ends_at labels l) ≡ ends_at labels l =
    filter-all test (ends_at labels l) (all-weaker (λ x. is_inline x.side ≡ false) (λ x. test x ≡ true) (ends_at labels l) (λ x h. ap not h) (ends-side labels l)) in
    let inlines : filter test (inline_labels labels l) ≡ [] =
    filter-none test (inline_labels labels l) (all-weaker (λ x. x.side ≡ Inline) (λ x. test x ≡ false) (inline_labels labels l) (λ x h. ap (λ t. not (is_inline t)) h) (inlines-side labels l)) in
    ap (best is_nearer_margin)
    (ap (filter test) e ∙ filter-append test (ends_at labels l) (inline_labels labels l) ∙ (λ i. ends i ++ inlines i) ∙ append-nil (ends_at labels l))

-- and the line labels are all but the margin label where it starts, in order
pub ranked-found : (labels : List LabelInfo) (l : ℕ) (all : List LineLabel) → all ≡ ends_at labels l ++ inline_labels labels l
    → ranked all ≡ line_labels labels l
unfolding ranked line_labels is_start
ranked-found labels l all e =
    let m = margin-found labels l all e in
    let test : LineLabel → Bool = λ x. not (is_start x.side && is_margin (margin_label labels l) x) in
    let inlines : filter test (inline_labels labels l) ≡ inline_labels labels l =
    filter-all test (inline_labels labels l) (all-weaker (λ x. x.side ≡ Inline) (λ x. test x ≡ true) (inline_labels labels l)
    (λ x h. not_from_false (is_start x.side && is_margin (margin_label labels l) x) (and_left (is_start x.side) (is_margin (margin_label labels l) x) (ap is_start h)))
    (inlines-side labels l)) in
    ap (in_order is_before)
    ((λ i. filter (λ x. not (is_start x.side && is_margin (m i) x)) (e i)) ∙ filter-append test (ends_at labels l) (inline_labels labels l)
    ∙ ap (λ t. filter test (ends_at labels l) ++ t) inlines)

-- ---- results and options

-- what holds anyhow holds on Ok
pub on-ok : {T E : Type 0} (P : Type 0) (r : Result T E) → P → OnOk r P
on-ok P (Ok x) p = p
on-ok P (Err y) p = tt

-- a test of an option's value that is true where there is none
pub tested-true : {X : Type 0} (f : X → Bool) (o : Option X) (r : Bool) → MatchOption o (IsTrue r) (λ x. r ≡ f x) → r ≡ true
    → MatchOption o (Unit {0}) (λ x. f x ≡ true)
tested-true f None r m e = tt
tested-true f (Some x) r m e = sym m ∙ e

-- where it is false there is a value, and it is false of it
pub tested-false : {X : Type 0} (f : X → Bool) (o : Option X) (r : Bool) → MatchOption o (IsTrue r) (λ x. r ≡ f x) → r ≡ false
    → MatchOption o ⊥ (λ x. f x ≡ false)
tested-false f None r m e = true≢false (sym m ∙ e)
tested-false f (Some x) r m e = sym m ∙ e

-- ---- the label of an event

-- what was made of an element that a look-up found
pub made-of : {X Y : Type 0} (f : X → Y) (xs : List X) (i : ℕ) (r : Option (Bor X)) (out : Option Y) → is_some r ≡ nat_lt i (length xs)
    → IfSome r (λ x. x.now ≡ get_or xs i x.now) → MatchOption r (out ≡ None) (λ x. out ≡ Some (f x.now)) → out ≡ option_map f (slice_get xs i)
made-of f xs i None out e m o = o ∙ sym (ap (option_map f) (slice_get_past xs i (ltb-false i (length xs) (sym e))))
made-of f xs i (Some x) out e m o = o ∙ sym (ap (option_map f) (slice_get_read xs (length xs) i x.now refl (ltb-true i (length xs) (sym e)) m))

-- the label of one event more is listed
pub labels-more : (labels : List LabelInfo) (xs : List Event) (i : ℕ) (d : Event) (now new : List LineLabel) (label : Option LineLabel) → i < length xs
    → now ≡ labels_of labels (take i xs) → label ≡ event_label labels (get_or xs i d).side (get_or xs i d).index → new ≡ now ++ option_to_list label
    → new ≡ labels_of labels (take (i + 1) xs)
unfolding labels_of
labels-more labels xs i d now new label h e is g =
    let f : Event → List LineLabel = λ x. option_to_list (event_label labels x.side x.index) in
    g ∙ (λ j. e j ++ option_to_list (is j)) ∙ ap (λ t. joined f (take i xs) ++ t) (sym (joined-one f (get_or xs i d)))
    ∙ sym (joined-append f (take i xs) (get_or xs i d ∷ [])) ∙ ap (joined f) (sym (take_more xs i d h))

-- at first there is none
pub labels-none : (labels : List LabelInfo) → labels_of labels [] ≡ []
unfolding labels_of joined
labels-none labels = refl
