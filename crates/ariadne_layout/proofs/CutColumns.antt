-- The columns of a cut line, as they are held part by part, are those of its places.
use Rattle.std.proofs.Common.{◌≡◌, ◌∙◌, ℕ, zero, suc, ◌+◌, ◌-◌, ◌<◌, ◌≤◌, min, List, [], ◌∷◌, ◌++◌, length, get_or, map, take, Result, Ok, Err, OnOk, true, false, refl, sym, ap, subst, arith, inl, inr}
use Rattle.std.specs.Prelude.{◌==◌}
use Rattle.std.specs.Result.{is_err}
use Rattle.std.proofs.lemmas.Bool.{cases_lt, ne_eqb, true≢false}
use Rattle.std.proofs.lemmas.List.{take_all}
use Rattle.std.proofs.lemmas.List.FromFn.{get_or-map-range_with_len}
use Rattle.std.proofs.lemmas.Option.{unwrap_or-slice_get}
use Rattle.ariadne_base.specs.Locations.{upto}
use Rattle.ariadne_picture.specs.declared.sight.Part.{Part}
use Rattle.ariadne_picture.specs.declared.sight.Sight.TheVariants.{Seen}
use Rattle.ariadne_picture.specs.declared.switches.CharSet.{CharSet}
use Rattle.ariadne_picture.specs.declared.switches.Switches.{Switches}
use Rattle.ariadne_picture.specs.Columns.{Layout, column_of, columns_of, shown, sight_in, sight_of, whole_width}
use Rattle.ariadne_layout.specs.declared.line_columns.Knot.{Knot}
use Rattle.ariadne_layout.specs.Cuts.{AreApart, cut_column, end_of, mark_before, mark_behind, sights_in}
use Rattle.ariadne_layout.specs.Knots.{AreRising, HoldColumns, HoldsOne, held_columns, knot_column}
use Rattle.ariadne_layout.specs.Tables.{AreColumns, AreWholeColumns, column_in}
use Rattle.ariadne_layout.proofs.CutParts.{whole-width-held}
use Rattle.ariadne_layout.proofs.Knots.{hold-alike, hold-none}
use Rattle.ariadne_layout.proofs.PartColumns.{before-flat, before-step, behind-step, cut-first, cut-more, seen-step}
use Rattle.ariadne_layout.proofs.PartSights.{end-low, end-more, part-from}
use Rattle.ariadne_layout.proofs.PlaceColumns.{column_of-first, column_of-more, width-behind, width-shown}

-- ---- part by part

-- in front of the first there is no place
pub none-held : (s : Switches) (text : List ℕ) (parts : List Part) (knots : List Knot) (n : ℕ) → knots ≡ []
    → HoldColumns (cut_column s text parts) knots (min (end_of 0 []) n) 0
unfolding end_of
none-held s text parts knots n none =
    let z : 0 ≡ min 0 n = omega arith in
    subst (λ m. HoldColumns (cut_column s text parts) knots m 0) z (hold-none (cut_column s text parts) knots none (cut-first s text parts))

-- a part ends behind its begin
pub part-order : (parts : List Part) (i : ℕ) (d : Part) (n a b : ℕ) → AreApart parts → i < length parts → a ≡ min (get_or parts i d).from n
    → b ≡ min (get_or parts i d).to n → a ≤ b
part-order parts i d n a b apart below from to = let there = part-from 0 parts i d apart below in omega (arith, there.1, from, to)

-- the places of one part more are held, behind its mark
pub part-held : (s : Switches) (text columns : List ℕ) (parts : List Part) (i : ℕ) (d : Part) (n : ℕ) (set : CharSet) (knots marked all : List Knot) (x y z a b : ℕ)
    → AreApart parts → i < length parts → s.char_set ≡ set → AreWholeColumns s.tab_width text columns → n ≤ length text
    → HoldColumns (cut_column s text parts) knots (min (end_of 0 (take i parts)) n) x
    → ((g : ℕ → ℕ) (e : ℕ) → HoldColumns g knots e x → e ≤ min (get_or parts i d).from n → (0 < (get_or parts i d).from → e < (get_or parts i d).from)
    → ((k : ℕ) → e ≤ k → k < (get_or parts i d).from → k ≤ n → g k ≡ x)
    → g (min (get_or parts i d).from n) ≡ x + mark_before set (get_or parts i d) n → HoldColumns g marked (min (get_or parts i d).from n) y)
    → a ≡ min (get_or parts i d).from n → b ≡ min (get_or parts i d).to n
    → ((g : ℕ → ℕ) → HoldColumns g marked a y
    → ((k : ℕ) → a ≤ k → k < b → g (k + 1) ≡ g k + (column_in columns (k + 1) - column_in columns k)) → HoldColumns g all b z)
    → HoldColumns (cut_column s text parts) all (min (end_of 0 (take (i + 1) parts)) n) z
part-held s text columns parts i d n set knots marked all x y z a b apart below same held within h mark from to places =
    let p = get_or parts i d in
    let f = cut_column s text parts in
    let e = min (end_of 0 (take i parts)) n in
    let low = end-low parts i d apart below in
    let step : f (min p.from n) ≡ x + mark_before set p n =
    before-step s text parts i d n apart below ∙ (λ j. sym h.next j + mark_before (same j) p n) in
    let first : HoldColumns f marked (min p.from n) y =
    mark f e h (omega (arith, low.1)) (λ some. let there = low.0 some in omega (arith, there))
    (λ k after before in_text. before-flat s text parts i d n k apart below after before in_text ∙ sym h.next) step in
    let seen : HoldColumns f all b z =
    places f (subst (λ m. HoldColumns f marked m y) (sym from) first) (λ k after before.
    let inside : k < length text = omega (arith, before, to, within) in
    let one = seen-step s text parts i d n k below (omega (arith, after, from)) (omega (arith, before, to)) in
    let w = whole-width-held s.tab_width text columns k (column_in columns (k + 1) - column_in columns k) held inside refl in
    one ∙ ap (λ m. f k + m) (sym w)) in
    subst (λ m. HoldColumns f all m z) (to ∙ ap (λ m. min m n) (sym (end-more 0 parts i d below))) seen

-- the places behind the last have those of its mark
pub end-held : (s : Switches) (text : List ℕ) (parts : List Part) (i n : ℕ) (set : CharSet) (knots : List Knot) (x : ℕ) → AreApart parts
    → length parts ≤ i → s.char_set ≡ set → HoldColumns (cut_column s text parts) knots (min (end_of 0 (take i parts)) n) x
    → HoldColumns (cut_column s text parts) knots (min (end_of 0 parts) n) x
    × ((k : ℕ) → end_of 0 parts < k → k ≤ n → cut_column s text parts k ≡ x + mark_behind set parts n)
end-held s text parts i n set knots x apart all same h =
    let f = cut_column s text parts in
    let whole : HoldColumns f knots (min (end_of 0 parts) n) x =
    subst (λ ps. HoldColumns f knots (min (end_of 0 ps) n) x) (take_all i parts all) h in (
      whole,
      λ k past within. behind-step s text parts n k apart past within ∙ (λ j. sym whole.next j + mark_behind (same j) parts n),
    )

-- ---- the columns of the line

-- what is seen of a shown place of a line with parts
pub sight-cut : (parts : List Part) (y : Layout) (k : ℕ) → y.sights ≡ sights_in parts (length (shown y)) → (y.sights ≡ [] → ⊥) → k < length (shown y)
    → sight_of y k ≡ sight_in parts k
unfolding sight_of sights_in
sight-cut [] y k is cut below = absurd (cut is)
sight-cut (p ∷ parts) y k is cut below =
    let z : 0 + k ≡ k = omega arith in
    unwrap_or-slice_get y.sights k Seen ∙ ap (λ xs. get_or xs k Seen) is
    ∙ get_or-map-range_with_len (sight_in (p ∷ parts)) 0 (length (shown y)) k k Seen below z

-- so its places begin where those of its text do
pub column-cut : (s : Switches) (parts : List Part) (y : Layout) (k : ℕ) → y.sights ≡ sights_in parts (length (shown y)) → (y.sights ≡ [] → ⊥)
    → k ≤ length (shown y) → cut_column s (shown y) parts k ≡ column_of s y k
column-cut s parts y zero is cut within = cut-first s (shown y) parts ∙ sym (column_of-first s y)
column-cut s parts y (suc k) is cut within =
    let e : suc k ≡ k + 1 = omega arith in
    let below : k < length (shown y) = omega (arith, within) in
    let sofar = column-cut s parts y k is cut (omega (arith, within)) in
    let here = width-shown s y k below in
    ap (cut_column s (shown y) parts) e ∙ cut-more s (shown y) parts k (sight_in parts k) refl
    ∙ (λ i. sofar i + columns_of s.char_set (sym (sight-cut parts y k is cut below) i) (whole_width s.tab_width (shown y) k))
    ∙ ap (λ w. column_of s y k + w) (sym here) ∙ sym (column_of-more s y k) ∙ ap (column_of s y) (sym e)

-- its columns are held as those of its text
pub line-held : (s : Switches) (parts : List Part) (y : Layout) (n : ℕ) (knots : List Knot) (x : ℕ) → y.sights ≡ sights_in parts (length (shown y))
    → (y.sights ≡ [] → ⊥) → n ≤ length (shown y) → HoldColumns (cut_column s (shown y) parts) knots n x → HoldColumns (column_of s y) knots n x
line-held s parts y n knots x is cut within h =
    hold-alike (cut_column s (shown y) parts) (column_of s y) knots n x (λ k low. column-cut s parts y k is cut (omega (arith, low, within))) h

-- places behind the shown text have one column each
pub behind-even : (s : Switches) (y : Layout) (len n m : ℕ) → m ≡ length (shown y) → n ≡ min len m → (k : ℕ) → n ≤ k → k < len
    → column_of s y (k + 1) ≡ column_of s y k + 1
behind-even s y len n m size least k low high =
    let one = width-behind s y k (omega (arith, size, least, low, high)) in
    let more = column_of-more s y k in
    omega (arith, one, more)

-- those of all places up to len, and of len
pub line-columns : (s : Switches) (y : Layout) (columns : List ℕ) (knots : List Knot) (len n : ℕ) → n ≡ len + 1 → (knots ≡ [] → ⊥)
    → ((k : ℕ) → k ≤ len → knot_column 0 knots k ≡ column_of s y k) → AreColumns s y len (held_columns columns knots n)
unfolding held_columns column_in
line-columns s y columns [] len n size some held = absurd (some refl)
line-columns s y columns (q ∷ knots) len n size some held = λ k within.
    let z : 0 + k ≡ k = omega arith in
    let below : k < n = omega (arith, size, within) in
    unwrap_or-slice_get (map (knot_column 0 (q ∷ knots)) (upto n)) k k
    ∙ get_or-map-range_with_len (knot_column 0 (q ∷ knots)) 0 n k k k below z ∙ held k within

-- a list with one more is not empty
pub some-pushed : (xs ys : List Knot) (q : Knot) → ys ≡ xs ++ q ∷ [] → ys ≡ [] → ⊥
some-pushed [] ys q pushed none = let e = ap length (sym pushed ∙ none) in omega (arith, e)
some-pushed (x ∷ xs) ys q pushed none = let e = ap length (sym pushed ∙ none) in omega (arith, e)

pub line-found : {E : Type 0} (r : Result (Unit {0}) E) (s : Switches) (y : Layout) (columns : List ℕ) (knots : List Knot) (len n : ℕ) → n ≡ len + 1
    → OnOk r (knots ≡ [] → ⊥) → OnOk r ((k : ℕ) → k ≤ len → knot_column 0 knots k ≡ column_of s y k)
    → OnOk r (AreColumns s y len (held_columns columns knots n))
line-found (Ok u) s y columns knots len n size some held = line-columns s y columns knots len n size some held
line-found (Err e) s y columns knots len n size some held = tt

-- knots that rise where all went well, where all did
pub rising-found : {E : Type 0} (r : Result (Unit {0}) E) (knots : List Knot) → is_err r ≡ false → OnOk r (AreRising knots) → AreRising knots
rising-found (Ok u) knots well rising = rising
rising-found (Err e) knots well rising = absurd (true≢false well)

-- a list alone is held as it is
pub list-held : (columns : List ℕ) (knots : List Knot) (n : ℕ) → knots ≡ [] → held_columns columns knots n ≡ columns
unfolding held_columns
list-held columns knots n none = ap (λ ks. held_columns columns ks n) none

-- so is one beside which no knots are held
pub listed-held : (columns : List ℕ) (knots : List Knot) (n m : ℕ) → HoldsOne columns knots → m ≡ length columns → (m == 0) ≡ false
    → held_columns columns knots n ≡ columns
listed-held columns knots n m one size some = elim (cases_lt 0 (length columns)) [
  | inl more ↦ list-held columns knots n (one more)
  | inr none ↦ let z : m ≡ 0 = omega (arith, size, none) in absurd (true≢false (sym (ap (λ j. j == 0) z) ∙ some))
]

-- where nothing is held each place is its own column
pub even-held : (columns : List ℕ) (knots : List Knot) (n m j k : ℕ) → m ≡ length columns → (m == 0) ≡ true → j ≡ length knots → (j == 0) ≡ true
    → column_in (held_columns columns knots n) k ≡ k
unfolding held_columns column_in
even-held [] [] n m j k size none count empty = refl
even-held (x ∷ columns) knots n m j k size none count empty =
    absurd (true≢false (sym none ∙ ap (λ i. i == 0) size ∙ ne_eqb (suc (length columns)) 0 (λ e. omega (arith, e))))
even-held [] (q ∷ knots) n m j k size none count empty =
    absurd (true≢false (sym empty ∙ ap (λ i. i == 0) count ∙ ne_eqb (suc (length knots)) 0 (λ e. omega (arith, e))))
