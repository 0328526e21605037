-- How wide the places of a line are, and the columns that they begin at.
use Rattle.std.proofs.Common.{◌≡◌, ℕ, zero, suc, ◌+◌, ◌-◌, ◌*◌, ◌<◌, ◌≤◌, false, cond, ◌==◌, List, [], ◌∷◌, length, get_or, slice_get, Option, Some, None}
use Rattle.std.proofs.Common.{unwrap_or, refl, sym, ap, ◌∙◌, arith, inl, inr}
use Rattle.std.specs.Char.{is_whitespace}
use Rattle.std.specs.List.{AllByRecursion, range_with_len}
use Rattle.std.proofs.lemmas.Bool.{cond_both, cond-false, cond_below, cond_above, cases_lt, ne_eqb}
use Rattle.std.proofs.lemmas.Bool.Decides.{nat_tests}
use Rattle.std.proofs.lemmas.List.{get_or_past}
use Rattle.unicode_width.specs.Width.{char_width}
use Rattle.unicode_width.proofs.Rules.{width_or_zero-le}
use Rattle.ariadne_base.specs.Locations.{upto}
use Rattle.ariadne_picture.specs.declared.sight.Sight.{Sight}
use Rattle.ariadne_picture.specs.declared.sight.Sight.TheVariants.{Seen, Marked, Unseen}
use Rattle.ariadne_picture.specs.declared.switches.CharSet.{CharSet}
use Rattle.ariadne_picture.specs.declared.switches.CharSet.TheVariants.{Unicode, Ascii}
use Rattle.ariadne_picture.specs.declared.switches.Switches.{Switches}
use Rattle.ariadne_picture.specs.Lists.{total}
use Rattle.ariadne_picture.specs.Columns.{Layout, char_columns, shown, shown_columns, whole_column, whole_width, sight_of, mark_columns, columns_of, column_of, width}
use Rattle.ariadne_picture.proofs.Cells.LineColumns.{column_of-total, total-upto_more}
use Rattle.ariadne_picture.proofs.Lists.Occurrences.{total-append}
use Rattle.ariadne_picture.proofs.Rows.LineBlock.{range-append}
use Rattle.ariadne_layout.specs.Tables.{tab_columns}

-- ---- sums over the numbers below n

-- more numbers give no less
pub total-upto_grows : (f : ℕ → ℕ) (n d : ℕ) → total f (upto n) ≤ total f (upto (n + d))
total-upto_grows f n zero = let e : n + 0 ≡ n = omega arith in rw e (omega arith)
total-upto_grows f n (suc d) =
    let e : n + suc d ≡ n + d + 1 = omega arith in
    let sofar = total-upto_grows f n d in
    let more = total-upto_more f (n + d) in
    rw e (omega (arith, sofar, more))

-- ---- the width of a place

-- a character that is printed as it is has three columns at most
pub char_columns-le : (c : ℕ) → char_columns c ≤ 3
unfolding char_columns
char_columns-le c = at_most (char_width false c) (width_or_zero-le false c)
  where
    -- one that has no width has one column
    at_most : (w : Option ℕ) → unwrap_or w 0 ≤ 3 → unwrap_or w 1 ≤ 3
    at_most None h = omega arith
    at_most (Some n) h = h

-- a shown character that is no tab has three columns at most
pub shown_columns-le : (tab_width x c : ℕ) → (c == 9) ≡ false → shown_columns tab_width x c ≤ 3
unfolding shown_columns
shown_columns-le tab_width x c other =
    let printed = char_columns-le c in
    rw other (cond_both (is_whitespace c) 1 (char_columns c) (λ n. n ≤ 3) (λ _. omega arith) (λ _. printed))

-- printable ASCII has one
pub shown_columns-printable : (tab_width x c : ℕ) → 32 ≤ c → c ≤ 126 → shown_columns tab_width x c ≡ 1
unfolding shown_columns char_columns char_width
shown_columns-printable tab_width x c low high =
    let other : (c == 9) ≡ false = ne_eqb c 9 (λ e. omega (arith, e)) in
    let printed : unwrap_or (char_width false c) 1 ≡ 1 = grind (arith, nat_tests) in
    rw other (cond_both (is_whitespace c) 1 (unwrap_or (char_width false c) 1) (λ n. n ≡ 1) (λ _. refl) (λ _. printed))

-- a place of the shown text has the columns of its character, or those of a mark, or none
pub width-shown : (s : Switches) (y : Layout) (k : ℕ) → k < length (shown y)
    → width s y k ≡ columns_of s.char_set (sight_of y k) (whole_width s.tab_width (shown y) k)
unfolding width
width-shown s y k below =
    sym (cond_below k (length (shown y)) (columns_of s.char_set (sight_of y k) (whole_width s.tab_width (shown y) k)) 1 below)

-- each is seen of a line that has no list
pub whole-seen : (y : Layout) (k : ℕ) → y.sights ≡ [] → sight_of y k ≡ Seen
unfolding sight_of
whole-seen y k whole = ap (λ (sights : List Sight). unwrap_or (slice_get sights k) Seen) whole

-- so there it has the columns of its character
pub width-whole : (s : Switches) (y : Layout) (k : ℕ) → y.sights ≡ [] → k < length (shown y) → width s y k ≡ whole_width s.tab_width (shown y) k
unfolding columns_of
width-whole s y k whole below =
    width-shown s y k below ∙ ap (λ sight. columns_of s.char_set sight (whole_width s.tab_width (shown y) k)) (whole-seen y k whole)

-- three columns at most, if it has no more where its line is shown whole
columns_of-le : (set : CharSet) (sight : Sight) (n : ℕ) → n ≤ 3 → columns_of set sight n ≤ 3
unfolding columns_of mark_columns
columns_of-le set Seen n few = few
columns_of-le Unicode Marked n few = omega arith
columns_of-le Ascii Marked n few = omega arith
columns_of-le set Unseen n few = omega arith

-- one past it has one column
pub width-behind : (s : Switches) (y : Layout) (k : ℕ) → length (shown y) ≤ k → width s y k ≡ 1
unfolding width
width-behind s y k past =
    sym (cond_above k (length (shown y)) (columns_of s.char_set (sight_of y k) (whole_width s.tab_width (shown y) k)) 1 1 past refl)

-- ---- the columns that places begin at

-- the first place begins at the first column
pub column_of-first : (s : Switches) (y : Layout) → column_of s y 0 ≡ 0
unfolding column_of
column_of-first s y = refl

-- a place ends where the next one begins
pub column_of-more : (s : Switches) (y : Layout) (k : ℕ) → column_of s y (k + 1) ≡ column_of s y k + width s y k
unfolding width column_of
column_of-more s y k = let e : k + 1 ≡ suc k = omega arith in ap (column_of s y) e

-- so it is where a text is shown whole
pub whole_column-first : (t : ℕ) (text : List ℕ) → whole_column t text 0 ≡ 0
unfolding whole_column
whole_column-first t text = refl

pub whole_column-more : (t : ℕ) (text : List ℕ) (k : ℕ) → whole_column t text (k + 1) ≡ whole_column t text k + whole_width t text k
unfolding whole_column whole_width
whole_column-more t text k = let e : k + 1 ≡ suc k = omega arith in ap (whole_column t text) e

-- a line that is shown whole has the columns of its text
pub column_of-whole : (s : Switches) (y : Layout) (k : ℕ) → y.sights ≡ [] → k ≤ length (shown y)
    → column_of s y k ≡ whole_column s.tab_width (shown y) k
column_of-whole s y zero whole within = column_of-first s y ∙ sym (whole_column-first s.tab_width (shown y))
column_of-whole s y (suc k) whole within =
    let e : suc k ≡ k + 1 = omega arith in
    let sofar = column_of-whole s y k whole (omega (arith, within)) in
    let here = width-whole s y k whole (omega (arith, within)) in
    ap (column_of s y) e ∙ column_of-more s y k ∙ (λ i. sofar i + here i) ∙ sym (whole_column-more s.tab_width (shown y) k)
    ∙ ap (whole_column s.tab_width (shown y)) (sym e)

-- and n places later the widths of those between are added
pub column_of-between : (s : Switches) (y : Layout) (k n : ℕ) → column_of s y (k + n) ≡ column_of s y k + total (width s y) (range_with_len k n)
column_of-between s y k n =
    let z : 0 + k ≡ k = omega arith in
    column_of-total s y (k + n)
    ∙ ap (total (width s y)) (range-append 0 k n) ∙ total-append (width s y) (upto k) (range_with_len (0 + k) n)
    ∙ (λ i. sym (column_of-total s y k) i + total (width s y) (range_with_len (z i) n))

-- past the shown text each place has one column
pub column_of-behind : (s : Switches) (y : Layout) (n d : ℕ) → length (shown y) ≤ n → column_of s y (n + d) ≡ column_of s y n + d
column_of-behind s y n zero past = let e : n + 0 ≡ n = omega arith in let f = ap (column_of s y) e in omega (arith, f)
column_of-behind s y n (suc d) past =
    let e : n + suc d ≡ n + d + 1 = omega arith in
    let f = ap (column_of s y) e in
    let sofar = column_of-behind s y n d past in
    let more = column_of-more s y (n + d) in
    let one = width-behind s y (n + d) (omega arith) in
    omega (arith, f, sofar, more, one)

-- ---- how far a line reaches

-- the columns of a shown tab, and none of another place
abbrev tab_part : Switches → Layout → ℕ → ℕ
tab_part s y k = cond (get_or (shown y) k 0 == 9) (width s y k) 0

-- a place has three columns beside them at most
width-le : (s : Switches) (y : Layout) (k : ℕ) → width s y k ≤ tab_part s y k + 3
unfolding whole_width
width-le s y k =
    let c = get_or (shown y) k 0 in
    elim (cases_lt k (length (shown y))) [
      | inl below ↦
          let here = width-shown s y k below in
          cond_both (c == 9) (width s y k) 0 (λ t. width s y k ≤ t + 3) (λ _. omega arith)
          (λ other.
          let printed = shown_columns-le s.tab_width (whole_column s.tab_width (shown y) k) c other in
          let most = columns_of-le s.char_set (sight_of y k) (whole_width s.tab_width (shown y) k) printed in
          omega (arith, here, most))
      | inr past ↦ let one = width-behind s y k past in omega (arith, one)
    ]

-- past the shown text there are no tabs
tab_part-behind : (s : Switches) (y : Layout) (k : ℕ) → length (shown y) ≤ k → tab_part s y k ≡ 0
tab_part-behind s y k past =
    let end : get_or (shown y) k 0 ≡ 0 = get_or_past (shown y) k 0 past in
    cond-false (get_or (shown y) k 0 == 9) (width s y k) 0 (ne_eqb (get_or (shown y) k 0) 9 (λ e. omega (arith, e, end)))

-- so all places up to the shown text's end and some more have no more tabs than the line
tabs-behind : (s : Switches) (y : Layout) (d : ℕ) → total (tab_part s y) (upto (length (shown y) + d)) ≡ total (tab_part s y) (upto (length (shown y)))
tabs-behind s y zero = let e : length (shown y) + 0 ≡ length (shown y) = omega arith in ap (λ n. total (tab_part s y) (upto n)) e
tabs-behind s y (suc d) =
    let n = length (shown y) in
    let e : n + suc d ≡ n + d + 1 = omega arith in
    let none = tab_part-behind s y (n + d) (omega arith) in
    let more = total-upto_more (tab_part s y) (n + d) in
    let sofar = tabs-behind s y d in
    ap (λ m. total (tab_part s y) (upto m)) e ∙ omega (arith, none, more, sofar)

-- the first places have no more tabs than the line
tabs-le : (s : Switches) (y : Layout) (k : ℕ) → total (tab_part s y) (upto k) ≤ tab_columns s y
unfolding tab_columns
tabs-le s y k =
    let n = length (shown y) in
    elim (cases_lt k n) [
      | inl below ↦ let e : n ≡ k + (n - k) = omega arith in let grown = total-upto_grows (tab_part s y) k (n - k) in rw e grown
      | inr past ↦ let e : k ≡ n + (k - n) = omega arith in let same = tabs-behind s y (k - n) in rw e (omega (arith, same))
    ]

-- a place begins at its tabs' columns and three for each place before it at most
column_of-sum : (s : Switches) (y : Layout) (k : ℕ) → column_of s y k ≤ total (tab_part s y) (upto k) + 3 * k
column_of-sum s y zero = let none = column_of-first s y in omega (arith, none)
column_of-sum s y (suc k) =
    let e : suc k ≡ k + 1 = omega arith in
    let here : column_of s y (suc k) ≡ column_of s y k + width s y k = ap (column_of s y) e ∙ column_of-more s y k in
    let tabs : total (tab_part s y) (upto (suc k)) ≡ total (tab_part s y) (upto k) + tab_part s y k =
    ap (λ n. total (tab_part s y) (upto n)) e ∙ total-upto_more (tab_part s y) k in
    omega (arith, column_of-sum s y k, width-le s y k, here, tabs)

-- so it is bounded by the line's tabs and its number
pub column_of-bound : (s : Switches) (y : Layout) (k : ℕ) → column_of s y k ≤ tab_columns s y + 3 * k
column_of-bound s y k = let sum = column_of-sum s y k in let tabs = tabs-le s y k in omega (arith, sum, tabs)

-- ---- a line of printable ASCII

-- the element at a place of a list has what all elements have
pub get_or-all : (P : ℕ → Type 0) (xs : List ℕ) (k : ℕ) → AllByRecursion P xs → k < length xs → P (get_or xs k 0)
get_or-all P [] k a h = absurd (omega arith)
get_or-all P (x ∷ xs) zero a h = a.0
get_or-all P (x ∷ xs) (suc k) a h = get_or-all P xs k a.1 (omega arith)

-- each place of a text has one column
whole_width-plain : (t : ℕ) (text : List ℕ) (k : ℕ) → AllByRecursion (λ c. (32 ≤ c) × (c ≤ 126)) text → k < length text
    → whole_width t text k ≡ 1
unfolding whole_width
whole_width-plain t text k plain below =
    let c = get_or-all (λ c. (32 ≤ c) × (c ≤ 126)) text k plain below in
    shown_columns-printable t (whole_column t text k) (get_or text k 0) c.0 c.1

-- so each is its column
pub whole_column-plain : (t : ℕ) (text : List ℕ) (k : ℕ) → AllByRecursion (λ c. (32 ≤ c) × (c ≤ 126)) text → k ≤ length text
    → whole_column t text k ≡ k
whole_column-plain t text zero plain within = whole_column-first t text
whole_column-plain t text (suc k) plain within =
    let e : suc k ≡ k + 1 = omega arith in
    let sofar = whole_column-plain t text k plain (omega (arith, within)) in
    let one = whole_width-plain t text k plain (omega (arith, within)) in
    let more = whole_column-more t text k in
    ap (whole_column t text) e ∙ omega (arith, sofar, one, more)

-- each place of a line that is shown whole has one column
width-plain : (s : Switches) (y : Layout) (k : ℕ) → y.sights ≡ [] → AllByRecursion (λ c. (32 ≤ c) × (c ≤ 126)) (shown y) → width s y k ≡ 1
width-plain s y k whole plain =
    elim (cases_lt k (length (shown y))) [
      | inl below ↦ width-whole s y k whole below ∙ whole_width-plain s.tab_width (shown y) k plain below
      | inr past ↦ width-behind s y k past
    ]

-- so each place is its column
pub column_of-plain : (s : Switches) (y : Layout) (k : ℕ) → y.sights ≡ [] → AllByRecursion (λ c. (32 ≤ c) × (c ≤ 126)) (shown y)
    → column_of s y k ≡ k
column_of-plain s y zero whole plain = column_of-first s y
column_of-plain s y (suc k) whole plain =
    let e : suc k ≡ k + 1 = omega arith in
    let sofar = column_of-plain s y k whole plain in
    let one = width-plain s y k whole plain in
    let more = column_of-more s y k in
    ap (column_of s y) e ∙ omega (arith, sofar, one, more)
