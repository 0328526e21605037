-- The first row and the last row of each gutter label are among the rows of its group, the first before the last.
use Rattle.std.proofs.Common.{◌≡◌, ℕ, zero, suc, ◌+◌, ◌-◌, ◌<◌, ◌≤◌, Bool, true, false, not, List, [], ◌∷◌, ◌++◌, Some, length, map, filter}
use Rattle.std.proofs.Common.{slice_get, refl, sym, ap, ◌∙◌, subst, arith, ◌==◌, nat_lt, inl, inr, is_some, Contains, if◌then◌else◌}
use Rattle.std.specs.List.{AllByRecursion, enumerate_from, range_with_len}
use Rattle.std.proofs.lemmas.Bool.{cond_both, ltb-false, and_left, and_right, ne_eqb, not_from_true}
use Rattle.std.proofs.lemmas.Option.{slice_get_within}
use Rattle.std.proofs.lemmas.List.Elements.{Contains-append_left, Contains-append_right, Contains-push}
use Rattle.ariadne_picture.specs.declared.label_info.LabelInfo.{LabelInfo}
use Rattle.ariadne_picture.specs.declared.label_info.LineLabel.{LineLabel}
use Rattle.ariadne_picture.specs.declared.label_info.Side.{Side}
use Rattle.ariadne_picture.specs.declared.label_info.Side.TheVariants.{Starts, Ends}
use Rattle.ariadne_picture.specs.Lists.{joined}
use Rattle.ariadne_picture.specs.Groups.{greatest, least_below, group_start_line, group_end_line}
use Rattle.ariadne_picture.specs.Ranks.{Sheet, span_len, is_on_one_line, multi_line_labels, gutter_labels, margin_label, line_labels, is_hidden_line, is_unlabelled, first_line, last_line, group_lines}
use Rattle.ariadne_picture.specs.Rows.{Row, group_header, spacer, source, alternate, arrow, tail, help, note, label_rows, lone_rows, line_rows, asides, rows}
use Rattle.ariadne_picture.specs.Strokes.{first_row, last_row}
use Rattle.ariadne_picture.specs.Bars.{IsGutterLabel, IsLineLabel}
use Rattle.ariadne_picture.proofs.Lists.ListFacts.{none≢some, all-weaker, all-filter, all-kept, all-in_order, all-at}
use Rattle.ariadne_picture.proofs.Rows.GutterLabelRows.{starts-somewhere, ends-somewhere, first-at-source, first-at-arrow, last-at-arrow, label-info}
use Rattle.ariadne_picture.proofs.Rows.NearLines.{shown-with}
use Rattle.ariadne_picture.proofs.Rows.GutterLabelRows.{starts≢inline, ends≢inline}

-- ---- elements

-- a list has its first element
pub contains-first : {X : Type 0} (x : X) (xs : List X) → Contains (x ∷ xs) x
contains-first x xs = (0, omega arith, refl)

-- and each of the others
pub contains-later : {X : Type 0} (y : X) (xs : List X) (x : X) → Contains xs x → Contains (y ∷ xs) x
contains-later y xs x h = Contains-append_right (y ∷ []) xs x h

-- lists joined have what one of them has
pub contains-joined : {X Y : Type 0} (f : X → List Y) (xs : List X) (k : ℕ) (x : X) (y : Y) → slice_get xs k ≡ Some x → Contains (f x) y
    → Contains (joined f xs) y
unfolding joined
contains-joined f [] k x y e h = absurd (none≢some x e)
contains-joined f (z ∷ xs) zero x y e h = let same : x ≡ z = cc in Contains-append_left (f z) (joined f xs) y (subst (λ w. Contains (f w) y) same h)
contains-joined f (z ∷ xs) (suc k) x y e h = Contains-append_right (f z) (joined f xs) y (contains-joined f xs k x y e h)

-- an enumerated list has each element under its place
pub enumerated-at : {X : Type 0} (a k : ℕ) (xs : List X) (x : X) → slice_get xs k ≡ Some x → slice_get (enumerate_from a xs) k ≡ Some (a + k, x)
enumerated-at a k [] x e = absurd (none≢some x e)
enumerated-at a zero (y ∷ xs) x e = let same : y ≡ x = cc in let z : a ≡ a + 0 = omega arith in λ i. Some (z i, same i)
enumerated-at a (suc k) (y ∷ xs) x e = let z : a + 1 + k ≡ a + suc k = omega arith in enumerated-at (a + 1) k xs x e ∙ ap (λ n. Some (n, x)) z

-- and so has a range of numbers
pub range-at : (a n k : ℕ) → k < n → slice_get (range_with_len a n) k ≡ Some (a + k)
range-at a zero k h = absurd (omega arith)
range-at a (suc n) zero h = let z : a ≡ a + 0 = omega arith in ap Some z
range-at a (suc n) (suc k) h = let z : a + 1 + k ≡ a + suc k = omega arith in range-at (a + 1) n k (omega arith) ∙ ap Some z

-- ---- the lines of a group

-- each number is at most the greatest
pub below-greatest : (ns : List ℕ) → AllByRecursion (λ n. n ≤ greatest ns) ns
unfolding greatest
below-greatest ns = wider ns (greatest ns) (omega arith)
  where
    wider : (ms : List ℕ) (b : ℕ) → greatest ms ≤ b → AllByRecursion (λ n. n ≤ b) ms
    wider [] b h = tt
    wider (m ∷ ms) b h = (omega arith, wider ms b (omega arith))

-- the least is at most the first number and the least of the others
pub least-below : (b : ℕ) (n : ℕ) (ns : List ℕ) → (least_below b (n ∷ ns) ≤ n) × (least_below b (n ∷ ns) ≤ least_below b ns)
unfolding least_below
least-below b n ns =
    cond_both (nat_lt n (least_below b ns)) n (least_below b ns) (λ m. (m ≤ n) × (m ≤ least_below b ns))
    (λ t. let less = Rattle.std.proofs.lemmas.Bool.ltb-true n (least_below b ns) t in (omega arith, omega arith))
    (λ f. let more = ltb-false n (least_below b ns) f in (more, omega arith))

-- each number is at least the least
pub above-least : (b : ℕ) (ns : List ℕ) (c : ℕ) → c ≤ least_below b ns → AllByRecursion (λ n. c ≤ n) ns
above-least b [] c h = tt
above-least b (n ∷ ns) c h = let two = least-below b n ns in let one = two.0 in let rest = two.1 in (omega arith, above-least b ns c (omega arith))

-- what holds of the numbers of a list holds of its elements' numbers
pub mapped : {X : Type 0} (P : ℕ → Type 0) (f : X → ℕ) (xs : List X) → AllByRecursion P (map f xs) → AllByRecursion (λ x. P (f x)) xs
mapped P f [] a = tt
mapped P f (x ∷ xs) a = (a.0, mapped P f xs a.1)

-- each label of a group lies within its lines
pub starts-within : (group : List LabelInfo) → AllByRecursion (λ a. group_start_line group ≤ a.start_line) group
unfolding group_start_line
starts-within group =
    mapped (λ n. group_start_line group ≤ n) (λ a. a.start_line) group
    (above-least (group_end_line group) (map (λ a. a.start_line) group) (group_start_line group) (omega arith))

-- at its end too
pub ends-within : (group : List LabelInfo) → AllByRecursion (λ a. a.end_line ≤ group_end_line group) group
unfolding group_end_line
ends-within group = mapped (λ n. n ≤ group_end_line group) (λ a. a.end_line) group (below-greatest (map (λ a. a.end_line) group))

-- so none is outside the lines that are shown
pub starts-shown : (s : Sheet) → AllByRecursion (λ a. first_line s ≤ a.start_line) s.labels
unfolding first_line
starts-shown s =
    all-weaker (λ a. group_start_line s.labels ≤ a.start_line) (λ a. first_line s ≤ a.start_line) s.labels (λ a h. omega (arith, h)) (starts-within s.labels)

pub ends-shown : (s : Sheet) → AllByRecursion (λ a. a.end_line ≤ last_line s) s.labels
unfolding last_line
ends-shown s =
    all-weaker (λ a. a.end_line ≤ group_end_line s.labels) (λ a. a.end_line ≤ last_line s) s.labels (λ a h. omega (arith, h)) (ends-within s.labels)

-- ---- a gutter label is a label of the group, with a message

-- what holds of each label of a group holds of each gutter label
pub all-gutter-labels : (P : LabelInfo → Type 0) (s : Sheet) → AllByRecursion P s.labels → AllByRecursion P (gutter_labels s.labels)
unfolding gutter_labels multi_line_labels
all-gutter-labels P s h =
    all-filter P (λ a. a.has_message) (multi_line_labels s.labels)
    (all-in_order P (λ a b. nat_lt (span_len b) (span_len a)) (filter (λ a. not (is_on_one_line a)) s.labels)
    (all-filter P (λ a. not (is_on_one_line a)) s.labels h))

-- so a gutter label lies within the lines of its group
pub gutter-label-within : (s : Sheet) (i : ℕ) (a : LabelInfo) → slice_get (gutter_labels s.labels) i ≡ Some a → (first_line s ≤ a.start_line)
    × (a.end_line ≤ last_line s)
gutter-label-within s i a e = (
  all-at (λ a. first_line s ≤ a.start_line) (gutter_labels s.labels) i a e
      (all-gutter-labels (λ a. first_line s ≤ a.start_line) s (starts-shown s)),
  all-at (λ a. a.end_line ≤ last_line s) (gutter_labels s.labels) i a e
      (all-gutter-labels (λ a. a.end_line ≤ last_line s) s (ends-shown s)),
)

-- and has a message
pub gutter-label-message : (s : Sheet) (i : ℕ) (a : LabelInfo) → slice_get (gutter_labels s.labels) i ≡ Some a → a.has_message ≡ true
unfolding gutter_labels
gutter-label-message s i a e = all-at (λ a. a.has_message ≡ true) (gutter_labels s.labels) i a e (all-kept (λ a. a.has_message) (multi_line_labels s.labels))

-- ---- rows of a shown line

-- a line that is not hidden has its source row and the rows of its line labels
pub shown : (s : Sheet) (l : ℕ) → is_hidden_line s l ≡ false → line_rows s l ≡ source l
    ∷ joined (label_rows s.switches.compact l) (enumerate_from 0 (line_labels s.labels l)) ++ lone_rows s l
unfolding line_rows
shown s l h = rw h

-- a line with a line label is not hidden
pub shown-by-label : (s : Sheet) (l n : ℕ) (x : LineLabel) → slice_get (line_labels s.labels l) n ≡ Some x → is_hidden_line s l ≡ false
unfolding is_unlabelled
shown-by-label s l n x e =
    let few = slice_get_within (line_labels s.labels l) n x e in
    shown-with s l (and_left (length (line_labels s.labels l) == 0) (not (is_some (margin_label s.labels l))) (ne_eqb (length (line_labels s.labels l)) 0 (omega arith)))

-- nor is one with a margin label
pub shown-by-margin : (s : Sheet) (l : ℕ) (x : LineLabel) → margin_label s.labels l ≡ Some x → is_hidden_line s l ≡ false
unfolding is_unlabelled
shown-by-margin s l x e =
    shown-with s l (and_right (length (line_labels s.labels l) == 0) (not (is_some (margin_label s.labels l))) (not_from_true (is_some (margin_label s.labels l)) (ap is_some e)))

-- so it has its source row
pub source-there : (s : Sheet) (l : ℕ) → is_hidden_line s l ≡ false → Contains (line_rows s l) (source l)
source-there s l h =
    subst (λ xs. Contains xs (source l)) (sym (shown s l h))
    (contains-first (source l) (joined (label_rows s.switches.compact l) (enumerate_from 0 (line_labels s.labels l)) ++ lone_rows s l))

-- a label with a message has its arrow row
pub arrow-of-label : (compact : Bool) (l n : ℕ) (x : LineLabel) → x.info.has_message ≡ true → Contains (label_rows compact l (n, x)) (arrow l n)
unfolding label_rows
arrow-of-label compact l n x h = rw h (Contains-push (if compact then [] else alternate l n ∷ []) (arrow l n))

-- so the rows of its line have it
pub arrow-there : (s : Sheet) (l n : ℕ) (x : LineLabel) → slice_get (line_labels s.labels l) n ≡ Some x → x.info.has_message ≡ true
    → Contains (line_rows s l) (arrow l n)
arrow-there s l n x e h =
    let z : 0 + n ≡ n = omega arith in
    let there : slice_get (enumerate_from 0 (line_labels s.labels l)) n ≡ Some (n, x) = enumerated-at 0 n (line_labels s.labels l) x e ∙ ap (λ k. Some (k, x)) z in
    subst (λ xs. Contains xs (arrow l n)) (sym (shown s l (shown-by-label s l n x e)))
    (contains-later (source l) (joined (label_rows s.switches.compact l) (enumerate_from 0 (line_labels s.labels l)) ++ lone_rows s l) (arrow l n)
    (Contains-append_left (joined (label_rows s.switches.compact l) (enumerate_from 0 (line_labels s.labels l))) (lone_rows s l) (arrow l n)
    (contains-joined (label_rows s.switches.compact l) (enumerate_from 0 (line_labels s.labels l)) n (n, x) (arrow l n) there
    (arrow-of-label s.switches.compact l n x h))))

-- ---- rows of the group

module _ (s : Sheet) (is_last : Bool) (helps notes : List (List ℕ)) where
  -- a group has the rows of each of its lines
  pub line-there : (l : ℕ) (x : Row) → first_line s ≤ l → l ≤ last_line s → Contains (line_rows s l) x
      → Contains (rows s is_last helps notes) x
  unfolding rows group_lines
  line-there l x low high h =
      let a = first_line s in
      let n : ℕ = suc (last_line s) - first_line s in
      let z : a + (l - a) ≡ l = omega arith in
      let top = group_header ∷ (if s.switches.compact then [] else spacer ∷ []) in
      let lines = joined (line_rows s) (range_with_len a n) in
      let aside = (if is_last then asides s.switches.compact help helps ++ asides s.switches.compact note notes else []) in
      Contains-append_left (top ++ lines ++ aside) (if s.switches.compact then [] else tail ∷ []) x
      (Contains-append_left (top ++ lines) aside x
      (Contains-append_right top lines x
      (contains-joined (line_rows s) (range_with_len a n) (l - a) l x (range-at a n (l - a) (omega arith) ∙ ap Some z) h)))

  module _ (i : ℕ) (a : LabelInfo) (m : IsGutterLabel s i a) where
    -- and the arrow row of each line label of a gutter label
    label-row-there : (l n : ℕ) (side : Side) → first_line s ≤ l → l ≤ last_line s → (h : IsLineLabel s l side i n)
        → h.label.info ≡ a → Contains (rows s is_last helps notes) (arrow l n)
    label-row-there l n side low high h same =
        line-there l (arrow l n) low high (arrow-there s l n h.label h.there (ap (λ b. b.has_message) same ∙ gutter-label-message s i a m.owned))

    -- a gutter label's first row is a row of the group
    pub first-row-there : Contains (rows s is_last helps notes) (first_row s i a)
    first-row-there =
        let within = gutter-label-within s i a m.owned in
        let low = within.0 in
        let high = within.1 in
        let up = m.rises in
        elim (starts-somewhere s i a m) [
          | inl h ↦ subst (Contains (rows s is_last helps notes)) (sym (first-at-source s i a h))
              (line-there a.start_line (source a.start_line) low (omega arith)
              (source-there s a.start_line (shown-by-margin s a.start_line h.label h.there)))
          | inr h ↦ subst (Contains (rows s is_last helps notes)) (sym (first-at-arrow s i h.0 a h.1))
              (label-row-there a.start_line h.0 Starts low (omega arith) h.1 (label-info s a.start_line i h.0 Starts a m.owned starts≢inline h.1))
        ]

    -- and so is its last row
    pub last-row-there : Contains (rows s is_last helps notes) (last_row s i a)
    last-row-there =
        let within = gutter-label-within s i a m.owned in
        let low = within.0 in
        let high = within.1 in
        let up = m.rises in
        let h = ends-somewhere s i a m in
        subst (Contains (rows s is_last helps notes)) (sym (last-at-arrow s i h.0 a h.1))
        (label-row-there a.end_line h.0 Ends (omega arith) high h.1 (label-info s a.end_line i h.0 Ends a m.owned ends≢inline h.1))
