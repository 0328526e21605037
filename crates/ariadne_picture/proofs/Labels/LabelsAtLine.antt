-- What the line labels of a line are, which of them shows a label's message, and that only one does.
use Rattle.std.proofs.Common.{◌≡◌, ◌≢◌, ℕ, zero, suc, ◌+◌, ◌-◌, ◌<◌, ◌≤◌, Bool, true, false, not, ◌&&◌, cond, List, [], ◌∷◌, ◌++◌, map, take}
use Rattle.std.proofs.Common.{Some, refl, sym, ap, ◌∙◌, subst, arith, ◌==◌, ◌⊎◌, inl, inr, if◌then◌else◌}
use Rattle.std.specs.Prelude.{slice_get, filter}
use Rattle.std.specs.List.{AllByRecursion, enumerate_from}
use Rattle.std.proofs.lemmas.Bool.{cond_both, cond-true, cond-false, eqb-true, eq-eqb, ne_eqb, cases_Bool, cases_lt, true≢false}
use Rattle.ariadne_picture.specs.declared.label_info.LabelInfo.{LabelInfo}
use Rattle.ariadne_picture.specs.declared.label_info.LineLabel.{LineLabel}
use Rattle.ariadne_picture.specs.declared.label_info.Side.TheVariants.{Inline, Starts, Ends}
use Rattle.ariadne_picture.specs.Lists.{joined, total}
use Rattle.ariadne_picture.specs.Ranks.{Sheet, is_start, is_on_one_line, span_len, multi_line_labels, gutter_labels, gutter_label_ends, ends_at}
use Rattle.ariadne_picture.specs.Ranks.{margin_label, is_margin, inline_labels, is_before, line_labels}
use Rattle.ariadne_picture.proofs.Lists.ListFacts.{all-filtered, none≢some, all-weaker, all-append, all-joined, all-filter, all-in_order, all-map}
use Rattle.ariadne_picture.proofs.Lists.ListFacts.{all-at}
use Rattle.ariadne_picture.proofs.Lists.ListFacts.{Increasing}
use Rattle.ariadne_picture.proofs.Lists.Elements.{Has, has-first, has-front, has-back, has-filter, has-in_order, has-map, has-joined, all-from}
use Rattle.ariadne_picture.proofs.Lists.Elements.{both-true, all-numbered}
use Rattle.ariadne_picture.proofs.Lists.Occurrences.{occurrences, total-append, total-joined, total-in_order, total-filter, total-le, only-passes}
use Rattle.ariadne_picture.proofs.Rows.RowNumbers.{total-next, total-rises}
use Rattle.ariadne_picture.proofs.Rows.RowsThere.{all-gutter-labels, enumerated-at}

-- ---- what the line labels are

-- the start of a gutter label
pub record IsStartHere (s : Sheet) (l : ℕ) (x : LineLabel) : Type 0 where
  pub side : x.side ≡ Starts
  pub owned : slice_get (gutter_labels s.labels) x.gutter_column ≡ Some x.info
  pub line : x.info.start_line ≡ l
  pub place : x.place ≡ x.info.start_place

-- its end
pub record IsEndHere (s : Sheet) (l : ℕ) (x : LineLabel) : Type 0 where
  pub side : x.side ≡ Ends
  pub owned : slice_get (gutter_labels s.labels) x.gutter_column ≡ Some x.info
  pub line : x.info.end_line ≡ l
  pub place : x.place ≡ x.info.end_place

-- a label within the line
pub record IsInlineHere (s : Sheet) (l : ℕ) (x : LineLabel) : Type 0 where
  pub side : x.side ≡ Inline
  pub owned : Has s.labels x.info
  pub one_line : is_on_one_line x.info ≡ true
  pub line : x.info.start_line ≡ l
  pub place : x.place ≡ x.info.attach

abbrev pub IsHere : Sheet → ℕ → LineLabel → Type 0
IsHere s l x = IsStartHere s l x ⊎ (IsEndHere s l x ⊎ IsInlineHere s l x)

-- the starts and ends of gutter labels are
pub ends-here : (s : Sheet) (l : ℕ) → AllByRecursion (IsHere s l) (ends_at s.labels l)
unfolding ends_at gutter_label_ends
ends-here s l =
    all-joined (IsHere s l) (λ e. slice_get (gutter_labels s.labels) e.0 ≡ Some e.1) (λ e. gutter_label_ends l e.0 e.1) (enumerate_from 0 (gutter_labels s.labels))
    (λ e h. two e.0 e.1 h)
    (all-numbered (λ e. slice_get (gutter_labels s.labels) e.0 ≡ Some e.1) (gutter_labels s.labels) (λ k x e. e))
  where
    two : (i : ℕ) (a : LabelInfo) → slice_get (gutter_labels s.labels) i ≡ Some a → AllByRecursion (IsHere s l) (gutter_label_ends l i a)
    two i a e =
        let first : LineLabel = record { info = a; side = Starts; gutter_column = i; place = a.start_place } in
        let last : LineLabel = record { info = a; side = Ends; gutter_column = i; place = a.end_place } in
        let P : List LineLabel → Type 0 = AllByRecursion (IsHere s l) in
        all-append (IsHere s l) (if a.start_line == l then first ∷ [] else []) (if a.end_line == l then last ∷ [] else [])
        (cond_both (a.start_line == l) (first ∷ []) [] P
        (λ h. (inl (record { side = refl; owned = e; line = eqb-true a.start_line l h; place = refl }), tt)) (λ _. tt))
        (cond_both (a.end_line == l) (last ∷ []) [] P
        (λ h. (inr (inl (record { side = refl; owned = e; line = eqb-true a.end_line l h; place = refl })), tt)) (λ _. tt))

-- and the labels within the line
inlines-here : (s : Sheet) (l : ℕ) → AllByRecursion (IsHere s l) (inline_labels s.labels l)
unfolding inline_labels
inlines-here s l =
    let make : LabelInfo → LineLabel = λ a. record { info = a; side = Inline; gutter_column = 0; place = a.attach } in
    let test : LabelInfo → Bool = λ a. is_on_one_line a && (a.start_line == l) in
    all-map (IsHere s l) make (filter test s.labels)
    (all-filtered (λ a. IsHere s l (make a)) test s.labels
    (all-from (λ a. test a ≡ true → IsHere s l (make a)) s.labels
    (λ k a e h. inr
    (inr (record {
      side = refl;
      owned = record { place = k; there = e };
      one_line = (two-true (is_on_one_line a) (a.start_line == l) h).0;
      line = eqb-true a.start_line l (two-true (is_on_one_line a) (a.start_line == l) h).1;
      place = refl;
    })))))
  where
    two-true : (b c : Bool) → (b && c) ≡ true → (b ≡ true) × (c ≡ true)
    two-true true c h = (refl, h)
    two-true false c h = absurd (true≢false (sym h))

-- so all line labels are
pub labels-here : (s : Sheet) (l : ℕ) → AllByRecursion (IsHere s l) (line_labels s.labels l)
unfolding line_labels
labels-here s l =
    let t : LineLabel → Bool = λ x. not (is_start x.side && is_margin (margin_label s.labels l) x) in
    all-in_order (IsHere s l) is_before (filter t (ends_at s.labels l) ++ inline_labels s.labels l)
    (all-append (IsHere s l) (filter t (ends_at s.labels l)) (inline_labels s.labels l) (all-filter (IsHere s l) t (ends_at s.labels l) (ends-here s l))
    (inlines-here s l))

-- gutter labels are labels of their group
pub gutter-labels-owned : (s : Sheet) → AllByRecursion (Has s.labels) (gutter_labels s.labels)
gutter-labels-owned s = all-gutter-labels (Has s.labels) s (all-from (Has s.labels) s.labels (λ k x e. record { place = k; there = e }))

-- the label of a line label is one of its group
pub label-owned : (s : Sheet) (l : ℕ) (x : LineLabel) → IsHere s l x → Has s.labels x.info
label-owned s l x (inl h) = all-at (Has s.labels) (gutter_labels s.labels) x.gutter_column x.info h.owned (gutter-labels-owned s)
label-owned s l x (inr (inl h)) = all-at (Has s.labels) (gutter_labels s.labels) x.gutter_column x.info h.owned (gutter-labels-owned s)
label-owned s l x (inr (inr h)) = h.owned

-- one that is no start ends at the line
pub label-ends : (s : Sheet) (l : ℕ) (x : LineLabel) → IsHere s l x → is_start x.side ≡ false → x.info.end_line ≡ l
unfolding is_start is_on_one_line
label-ends s l x (inl h) n = absurd (true≢false (sym (ap is_start h.side) ∙ n))
label-ends s l x (inr (inl h)) n = h.line
label-ends s l x (inr (inr h)) n = sym (eqb-true x.info.start_line x.info.end_line h.one_line) ∙ h.line

-- ---- a line label shows each label

-- line label x is no start, and its label is a
pub record Shows (a : LabelInfo) (x : LineLabel) : Type 0 where
  pub no_start : is_start x.side ≡ false
  pub info : x.info ≡ a

-- a label over several lines with a message is a gutter label
pub gutter-label-there : (s : Sheet) (k : ℕ) (a : LabelInfo) → slice_get s.labels k ≡ Some a → a.has_message ≡ true → is_on_one_line a ≡ false
    → Has (gutter_labels s.labels) a
unfolding gutter_labels multi_line_labels
gutter-label-there s k a e m n =
    let several = has-filter (λ a. not (is_on_one_line a)) s.labels k a e (ap not n) in
    let sorted = has-in_order (λ a b. Rattle.std.proofs.Common.nat_lt (span_len b) (span_len a))
    (filter (λ a. not (is_on_one_line a)) s.labels) several.place a several.there in
    has-filter (λ a. a.has_message) (multi_line_labels s.labels) sorted.place a sorted.there m

-- the end of a gutter label is a line label
end-there : (s : Sheet) (i : ℕ) (a : LabelInfo) → slice_get (gutter_labels s.labels) i ≡ Some a
    → Has (line_labels s.labels a.end_line) (record { info = a; side = Ends; gutter_column = i; place = a.end_place })
unfolding line_labels ends_at gutter_label_ends is_start
end-there s i a e =
    let last : LineLabel = record { info = a; side = Ends; gutter_column = i; place = a.end_place } in
    let t : LineLabel → Bool = λ x. not (is_start x.side && is_margin (margin_label s.labels a.end_line) x) in
    let z : 0 + i ≡ i = omega arith in
    let there : slice_get (enumerate_from 0 (gutter_labels s.labels)) i ≡ Some (i, a) = enumerated-at 0 i (gutter_labels s.labels) a e ∙ ap (λ k. Some (k, a)) z in
    let one : Has (gutter_label_ends a.end_line i a) last = has-back
    (if a.start_line == a.end_line then record { info = a; side = Starts; gutter_column = i; place = a.start_place } ∷ [] else [])
    (if a.end_line == a.end_line then last ∷ [] else []) last
    (subst (λ xs. Has xs last) (sym (cond-true (a.end_line == a.end_line) (last ∷ []) [] (eq-eqb a.end_line a.end_line refl))) (has-first last [])) in
    let end = has-joined (λ e. gutter_label_ends a.end_line e.0 e.1) (enumerate_from 0 (gutter_labels s.labels)) i (i, a) last there one in
    let kept = has-filter t (ends_at s.labels a.end_line) end.place last end.there refl in
    let all = has-front (filter t (ends_at s.labels a.end_line)) (inline_labels s.labels a.end_line) last kept in
    has-in_order is_before (filter t (ends_at s.labels a.end_line) ++ inline_labels s.labels a.end_line) all.place last all.there

-- a label within a line is a line label
inline-there : (s : Sheet) (k : ℕ) (a : LabelInfo) → slice_get s.labels k ≡ Some a → is_on_one_line a ≡ true
    → Has (line_labels s.labels a.end_line) (record { info = a; side = Inline; gutter_column = 0; place = a.attach })
unfolding line_labels inline_labels is_on_one_line
inline-there s k a e one =
    let x : LineLabel = record { info = a; side = Inline; gutter_column = 0; place = a.attach } in
    let t : LineLabel → Bool = λ x. not (is_start x.side && is_margin (margin_label s.labels a.end_line) x) in
    let test : LabelInfo → Bool = λ b. is_on_one_line b && (b.start_line == a.end_line) in
    let within = has-filter test s.labels k a e (both-true (a.start_line == a.end_line) (a.start_line == a.end_line) one one) in
    let make : LabelInfo → LineLabel = λ a. record { info = a; side = Inline; gutter_column = 0; place = a.attach } in
    let made = has-map make (filter test s.labels) within.place a within.there in
    let all = has-back (filter t (ends_at s.labels a.end_line)) (inline_labels s.labels a.end_line) x made in
    has-in_order is_before (filter t (ends_at s.labels a.end_line) ++ inline_labels s.labels a.end_line) all.place x all.there

-- so a label with a message is shown by a line label of the line where it ends
pub shown-by : (s : Sheet) (k : ℕ) (a : LabelInfo) → slice_get s.labels k ≡ Some a → a.has_message ≡ true → (x : LineLabel)
    × Has (line_labels s.labels a.end_line) x × Shows a x
unfolding is_start
shown-by s k a e m = elim (cases_Bool (is_on_one_line a)) [
  | inl one ↦ (
    record { info = a; side = Inline; gutter_column = 0; place = a.attach },
    inline-there s k a e one,
    record { no_start = refl; info = refl },
  )
  | inr several ↦
      let h = gutter-label-there s k a e m several in (
        record { info = a; side = Ends; gutter_column = h.place; place = a.end_place },
        end-there s h.place a h.there,
        record { no_start = refl; info = refl },
      )
]

-- ---- and only one does

-- whether a line label is no start and has label number k
abbrev pub shows_number : ℕ → LineLabel → Bool
shows_number k x = not (is_start x.side) && (x.info.position == k)

abbrev pub has_number : ℕ → LabelInfo → Bool
has_number k a = a.position == k

-- a sum in two parts
total-split : {X : Type 0} (f : X → ℕ) (test : X → Bool) (xs : List X)
    → total f (filter (λ x. not (test x)) xs) + total f (filter test xs) ≡ total f xs
unfolding total
total-split f test [] = refl
total-split f test (x ∷ xs) =
    let more = total-split f test xs in
    elim (cases_Bool (test x)) [
      | inl h ↦ rw h (omega (arith, more))
      | inr h ↦ rw h (omega (arith, more))
    ]

-- a sum over a part of the elements
total-fewer : {X : Type 0} (f : X → ℕ) (t u : X → Bool) (xs : List X) → total f (filter (λ x. t x && u x) xs) ≤ total f (filter t xs)
unfolding total
total-fewer f t u [] = omega arith
total-fewer f t u (x ∷ xs) =
    let more = total-fewer f t u xs in
    elim (cases_Bool (t x)) [
      | inl h ↦ elim (cases_Bool (u x)) [ inl k ↦ rw (h, k) (omega (arith, more)) | inr k ↦ rw (h, k) (omega (arith, more)) ]
      | inr h ↦ rw h more
    ]

-- of a numbered list
total-numbered : {X : Type 0} (f : X → ℕ) (a : ℕ) (xs : List X) → total (λ (e : ℕ × X). f e.1) (enumerate_from a xs) ≡ total f xs
unfolding total
total-numbered f a [] = refl
total-numbered f a (x ∷ xs) = ap (λ n. f x + n) (total-numbered f (a + 1) xs)

-- of a map
total-mapped : {X Y : Type 0} (g : Y → ℕ) (f : X → Y) (h : X → ℕ) → ((x : X) → g (f x) ≤ h x) → (xs : List X) → total g (map f xs) ≤ total h xs
unfolding total
total-mapped g f h e [] = omega arith
total-mapped g f h e (x ∷ xs) = let here = e x in let more = total-mapped g f h e xs in omega (arith, here, more)

-- among the two of one gutter label
gutter-label-shows : (k l i : ℕ) (a : LabelInfo) → occurrences (shows_number k) (gutter_label_ends l i a) ≤ cond (a.position == k) 1 0
unfolding gutter_label_ends is_start total
gutter-label-shows k l i a =
    let first : LineLabel = record { info = a; side = Starts; gutter_column = i; place = a.start_place } in
    let last : LineLabel = record { info = a; side = Ends; gutter_column = i; place = a.end_place } in
    cond_both (a.start_line == l) (first ∷ []) [] (λ xs. occurrences (shows_number k) (xs ++ (if a.end_line == l then last ∷ [] else [])) ≤ cond
    (a.position == k) 1 0)
    (λ _. cond_both (a.end_line == l) (last ∷ []) [] (λ xs. occurrences (shows_number k) (first ∷ xs) ≤ cond (a.position == k) 1 0) (λ _. omega arith)
    (λ _. omega arith))
    (λ _. cond_both (a.end_line == l) (last ∷ []) [] (λ xs. occurrences (shows_number k) xs ≤ cond (a.position == k) 1 0) (λ _. omega arith)
    (λ _. omega arith))

-- as many line labels show a number as labels have it, at most
pub shows-few : (s : Sheet) (l k : ℕ) → occurrences (shows_number k) (line_labels s.labels l) ≤ occurrences (has_number k) s.labels
unfolding line_labels ends_at inline_labels is_start gutter_labels multi_line_labels
shows-few s l k =
    let g : LineLabel → ℕ = λ x. cond (shows_number k x) 1 0 in
    let f : LabelInfo → ℕ = λ a. cond (has_number k a) 1 0 in
    let t : LineLabel → Bool = λ x. not (is_start x.side && is_margin (margin_label s.labels l) x) in
    let make : LabelInfo → LineLabel = λ a. record { info = a; side = Inline; gutter_column = 0; place = a.attach } in
    let ins : List LabelInfo = filter (λ a. is_on_one_line a && (a.start_line == l)) s.labels in
    let longer : LabelInfo → LabelInfo → Bool = λ a b. Rattle.std.proofs.Common.nat_lt (span_len b) (span_len a) in
    let several : List LabelInfo = filter (λ a. not (is_on_one_line a)) s.labels in
    let sorted = total-in_order g is_before (filter t (ends_at s.labels l) ++ map make ins) in
    let two = total-append g (filter t (ends_at s.labels l)) (map make ins) in
    let kept = total-filter g t (ends_at s.labels l) in
    let parts = total-joined g (λ (e : ℕ × LabelInfo). gutter_label_ends l e.0 e.1) (enumerate_from 0 (gutter_labels s.labels)) in
    let each = total-le (λ (e : ℕ × LabelInfo). total g (gutter_label_ends l e.0 e.1)) (λ (e : ℕ × LabelInfo). f e.1)
    (enumerate_from 0 (gutter_labels s.labels)) (λ e. gutter-label-shows k l e.0 e.1) in
    let all = total-numbered f 0 (gutter_labels s.labels) in
    let owned = total-filter f (λ a. a.has_message) (multi_line_labels s.labels) in
    let ranked = total-in_order f longer several in
    let within : total g (map make ins) ≤ total f ins = total-mapped g make f (λ a. omega arith) ins in
    let fewer = total-fewer f is_on_one_line (λ a. a.start_line == l) s.labels in
    let split = total-split f is_on_one_line s.labels in
    omega (arith, sorted, two, kept, parts, each, all, owned, ranked, within, fewer, split)

-- where a number stands once, only one line label of a line shows it
pub shows-once : (s : Sheet) (l k : ℕ) (m n : ℕ) (x y : LineLabel) → occurrences (has_number k) s.labels ≤ 1
    → slice_get (line_labels s.labels l) m ≡ Some x → slice_get (line_labels s.labels l) n ≡ Some y → shows_number k x ≡ true → shows_number k y ≡ true → m ≡ n
shows-once s l k m n x y once e f h i =
    let few = shows-few s l k in
    let one : occurrences (shows_number k) (line_labels s.labels l) ≤ 1 = omega arith in
    sym (only-passes (shows_number k) (line_labels s.labels l) m (record { item = x; there = e; passes = h }) one)
    ∙ only-passes (shows_number k) (line_labels s.labels l) n (record { item = y; there = f; passes = i }) one

-- ---- numbers that differ

-- equal numbers stand at one place
pub apart : {X : Type 0} (f : X → ℕ) (xs : List X) (i j : ℕ) (a b : X) → Increasing (λ a b. f a ≢ f b) xs → slice_get xs i ≡ Some a
    → slice_get xs j ≡ Some b → f a ≡ f b → i ≡ j
apart f [] i j a b h d e same = absurd (none≢some a d)
apart f (x ∷ xs) zero zero a b h d e same = refl
apart f (x ∷ xs) zero (suc j) a b h d e same = let is : x ≡ a = cc in absurd (all-at (λ y. f x ≢ f y) xs j b e h.0 (ap f is ∙ same))
apart f (x ∷ xs) (suc i) zero a b h d e same = let is : x ≡ b = cc in absurd (all-at (λ y. f x ≢ f y) xs i a d h.0 (ap f is ∙ sym same))
apart f (x ∷ xs) (suc i) (suc j) a b h d e same = ap suc (apart f xs i j a b h.1 d e same)

-- one place in parts that are joined is one place in one part
pub same-part : {X : Type 0} (f : X → ℕ) (xs : List X) (g h j k : ℕ) (x y : X) → slice_get xs g ≡ Some x → slice_get xs h ≡ Some y → j < f x → k < f y
    → total f (take g xs) + j ≡ total f (take h xs) + k → (g ≡ h) × (j ≡ k)
same-part f xs g h j k x y d e p q same = elim (cases_lt g h) [
  | inl less ↦ let z : suc g + (h - suc g) ≡ h = omega arith in
      absurd (let up = total-rises f (suc g) (h - suc g) xs in let end = ap (λ n. total f (take n xs)) z in let next = total-next f xs g x d in
      omega (arith, up, end, next))
  | inr least ↦ elim (cases_lt h g) [
    | inl less ↦ let z : suc h + (g - suc h) ≡ g = omega arith in
        absurd (let up = total-rises f (suc h) (g - suc h) xs in let end = ap (λ n. total f (take n xs)) z in let next = total-next f xs h y e in
        omega (arith, up, end, next))
    | inr more ↦ let z : g ≡ h = omega arith in (z, let s = ap (λ n. total f (take n xs)) z in omega (arith, s))
  ]
]

-- what holds of joined lists holds of the first
pub all-front : {X : Type 0} (P : X → Type 0) (xs ys : List X) → AllByRecursion P (xs ++ ys) → AllByRecursion P xs
all-front P [] ys a = tt
all-front P (x ∷ xs) ys a = (a.0, all-front P xs ys a.1)

-- of lists joined each stands so
pub increasing-parts : {X : Type 0} (R : X → X → Type 0) (xs ys : List X) → Increasing R (xs ++ ys) → Increasing R xs × Increasing R ys
increasing-parts R [] ys i = (tt, i)
increasing-parts R (x ∷ xs) ys i = let rest = increasing-parts R xs ys i.1 in ((all-front (R x) xs ys i.0, rest.0), rest.1)

pub increasing-part : {X Y : Type 0} (R : Y → Y → Type 0) (f : X → List Y) (xs : List X) (g : ℕ) (x : X) → Increasing R (joined f xs)
    → slice_get xs g ≡ Some x → Increasing R (f x)
unfolding joined
increasing-part R f [] g x i e = absurd (none≢some x e)
increasing-part R f (y ∷ xs) zero x i e = let same : y ≡ x = cc in subst (λ z. Increasing R (f z)) same (increasing-parts R (f y) (joined f xs) i).0
increasing-part R f (y ∷ xs) (suc g) x i e = increasing-part R f xs g x (increasing-parts R (f y) (joined f xs) i).1 e

-- a number that no element has occurs nowhere
none-has : (k : ℕ) (xs : List LabelInfo) → AllByRecursion (λ a. a.position ≢ k) xs → occurrences (has_number k) xs ≡ 0
unfolding total
none-has k [] a = refl
none-has k (x ∷ xs) a =
    let more = none-has k xs a.1 in let here : cond {A = ℕ} (x.position == k) 1 0 ≡ 0 = cond-false (x.position == k) 1 0 (ne_eqb x.position k a.0) in
    omega (arith, more, here)

-- numbers that differ occur once
pub has-once : (k : ℕ) (xs : List LabelInfo) → Increasing (λ (a b : LabelInfo). a.position ≢ b.position) xs → occurrences (has_number k) xs ≤ 1
unfolding total
has-once k [] i = omega arith
has-once k (x ∷ xs) i =
    let rest = has-once k xs i.1 in
    elim (cases_Bool (x.position == k)) [
      | inl h ↦ let none = none-has k xs (all-weaker (λ (b : LabelInfo). x.position ≢ b.position) (λ a. a.position ≢ k) xs
          (λ b ne e. ne (eqb-true x.position k h ∙ sym e)) i.0) in rw h (omega (arith, none))
      | inr h ↦ rw h (omega (arith, rest))
    ]
