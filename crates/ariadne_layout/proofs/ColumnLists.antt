-- The list of the columns that the places of a line begin at: it is filled over the shown characters, and then past them.
use Rattle.std.proofs.Common.{◌≡◌, ℕ, zero, suc, ◌+◌, ◌-◌, ◌<◌, ◌≤◌, min, List, [], ◌∷◌, ◌++◌, length, map, get_or, take, refl, sym, ap, ◌∙◌, arith}
use Rattle.std.proofs.Common.{append_assoc, append-nil}
use Rattle.std.specs.List.{AllByRecursion, range_with_len}
use Rattle.std.proofs.lemmas.List.{get_or-take, get_or_read, length-take}
use Rattle.std.proofs.lemmas.List.FromFn.{get_or-map-range_with_len, length-map-range_with_len, map-range_with_len_more}
use Rattle.std.proofs.lemmas.Option.{unwrap_or-slice_get}
use Rattle.ariadne_base.specs.Locations.{upto}
use Rattle.ariadne_picture.specs.declared.switches.Switches.{Switches}
use Rattle.ariadne_picture.specs.Columns.{Layout, shown, shown_columns, whole_column, whole_width, sight_of, columns_of, column_of}
use Rattle.ariadne_picture.proofs.Lists.Joined.{range_more}
use Rattle.ariadne_layout.specs.Tables.{AreColumns, AreWholeColumns, column_in}
use Rattle.ariadne_layout.proofs.PlaceColumns.{width-shown, column_of-more, column_of-behind, column_of-plain, column_of-whole, whole_column-more, whole_column-plain}

-- ---- a line of printable ASCII

-- needs no list
pub columns-plain : (s : Switches) (y : Layout) (len : ℕ) → y.sights ≡ [] → AllByRecursion (λ c. (32 ≤ c) × (c ≤ 126)) (shown y)
    → AreColumns s y len []
unfolding column_in
columns-plain s y len whole plain = λ k h. sym (column_of-plain s y k whole plain)

pub whole-plain : (t : ℕ) (text : List ℕ) → AllByRecursion (λ c. (32 ≤ c) × (c ≤ 126)) text → AreWholeColumns t text []
unfolding column_in
whole-plain t text plain = λ k h. sym (whole_column-plain t text k plain h)

-- ---- the shown characters

-- a turn of the loop over the shown characters, of which the first len are taken
pub shown-turn : (cs : List ℕ) (len n c : ℕ) → n < length (take len cs) → c ≡ get_or (take len cs) n c
    → (n < len) × (n < length cs) × (c ≡ get_or cs n 0)
shown-turn cs len n c below item =
    let taken = length-take len cs in
    let short : n < len = omega (arith, taken) in
    let long : n < length cs = omega (arith, taken) in
    (short, long, get_or_read cs n c long (item ∙ get_or-take len cs n c short) 0)

-- it pushes the column of its place
pub columns-more : (f : ℕ → ℕ) (columns more : List ℕ) (n x : ℕ) → columns ≡ map f (upto n) → x ≡ f n → more ≡ columns ++ x ∷ []
    → more ≡ map f (upto (n + 1))
columns-more f columns more n x sofar here pushed =
    let z : 0 + n ≡ n = omega arith in
    pushed ∙ (λ i. sofar i ++ here i ∷ []) ∙ sym (map-range_with_len_more f 0 n n z)

-- and then has that of the next, where the text is shown whole
pub whole-step : (t : ℕ) (text : List ℕ) (n c x w : ℕ) → c ≡ get_or text n 0 → x ≡ whole_column t text n → w ≡ shown_columns t x c
    → x + w ≡ whole_column t text (n + 1)
unfolding whole_width
whole-step t text n c x w char sofar size =
    let here : shown_columns t x c ≡ whole_width t text n = (λ i. shown_columns t (sofar i) (char i)) in
    let more = whole_column-more t text n in
    omega (arith, sofar, size, here, more)

-- or where the line is cut
pub cut-step : (s : Switches) (y : Layout) (n c x w whole : ℕ) → n < length (shown y) → c ≡ get_or (shown y) n 0 → x ≡ column_of s y n
    → whole ≡ whole_column s.tab_width (shown y) n → w ≡ shown_columns s.tab_width whole c
    → x + columns_of s.char_set (sight_of y n) w ≡ column_of s y (n + 1)
unfolding whole_width
cut-step s y n c x w whole below char sofar counted size =
    let here : w ≡ whole_width s.tab_width (shown y) n = size ∙ (λ i. shown_columns s.tab_width (counted i) (char i)) in
    (λ i. sofar i + columns_of s.char_set (sight_of y n) (here i)) ∙ (λ i. column_of s y n + sym (width-shown s y n below) i)
    ∙ sym (column_of-more s y n)

-- the columns of a line that is shown whole are those of its text
pub whole-list : (s : Switches) (y : Layout) (n : ℕ) → y.sights ≡ [] → n ≤ length (shown y)
    → map (whole_column s.tab_width (shown y)) (upto n) ≡ map (column_of s y) (upto n)
whole-list s y n whole within = from 0 n (omega (arith, within))
  where
    from : (a n : ℕ) → a + n ≤ length (shown y)
        → map (whole_column s.tab_width (shown y)) (range_with_len a n) ≡ map (column_of s y) (range_with_len a n)
    from a zero h = refl
    from a (suc n) h = λ i. sym (column_of-whole s y a whole (omega (arith, h))) i ∷ from (a + 1) n (omega (arith, h)) i

-- the end of that loop
pub shown-end : (cs : List ℕ) (len n : ℕ) → n ≡ length (take len cs) → n ≡ min len (length cs)
shown-end cs len n all = all ∙ length-take len cs

-- ---- the places past them

-- one more of those that have one column each
pub run-more : (front sofar : List ℕ) (x first place : ℕ) → first ≤ place → sofar ≡ front ++ range_with_len x (place - first)
    → sofar ++ (x + (place - first)) ∷ [] ≡ front ++ range_with_len x (place + 1 - first)
run-more front sofar x first place h e =
    let d = place - first in
    let more : d + 1 ≡ place + 1 - first = omega arith in
    ap (λ t. t ++ (x + d) ∷ []) e ∙ append_assoc front (range_with_len x d) ((x + d) ∷ []) ∙ sym (ap (λ t. front ++ t) (range_more x d))
    ∙ ap (λ m. front ++ range_with_len x m) more

-- places that have one column each follow one another
columns-run : (s : Switches) (y : Layout) (n d : ℕ) → ((j : ℕ) → j < d → column_of s y (n + j) ≡ column_of s y n + j)
    → map (column_of s y) (upto n) ++ range_with_len (column_of s y n) d ≡ map (column_of s y) (upto (n + d))
columns-run s y n zero each = let e : n + 0 ≡ n = omega arith in append-nil (map (column_of s y) (upto n)) ∙ sym (ap (λ m. map (column_of s y) (upto m)) e)
columns-run s y n (suc d) each =
    let f = column_of s y in
    let e : suc d ≡ d + 1 = omega arith in
    let g : n + d + 1 ≡ n + suc d = omega arith in
    let sofar = columns-run s y n d (λ j h. each j (omega arith)) in
    let last : f n + d ≡ f (n + d) = sym (each d (omega arith)) in
    ap (λ m. map f (upto n) ++ range_with_len (f n) m) e ∙ ap (λ t. map f (upto n) ++ t) (range_more (f n) d)
    ∙ sym (append_assoc (map f (upto n)) (range_with_len (f n) d) ((f n + d) ∷ []))
    ∙ columns-more f (map f (upto n) ++ range_with_len (f n) d) _ (n + d) (f n + d) sofar last refl ∙ ap (λ m. map f (upto m)) g

-- ---- both together

-- the columns of the shown places before len, and of those behind them up to len, are those of all places up to len
pub columns-filled : (s : Switches) (y : Layout) (len n x : ℕ) (front all : List ℕ) → n ≡ min len (length (shown y))
    → front ≡ map (column_of s y) (upto n) → x ≡ column_of s y n → all ≡ front ++ range_with_len x (len + 1 - length front)
    → all ≡ map (column_of s y) (upto (len + 1))
columns-filled s y len n x front all least first here whole =
    let f = column_of s y in
    let size : length front ≡ n = ap length first ∙ length-map-range_with_len f 0 n in
    let e : n + (len + 1 - n) ≡ len + 1 = omega arith in
    whole ∙ ap (λ m. front ++ range_with_len x (len + 1 - m)) size ∙ (λ i. first i ++ range_with_len (here i) (len + 1 - n))
    ∙ columns-run s y n (len + 1 - n) each ∙ ap (λ m. map f (upto m)) e
  where
    -- behind the shown text each has one column, and in front of its end there is place len alone
    each : (j : ℕ) → j < len + 1 - n → column_of s y (n + j) ≡ column_of s y n + j
    each zero h = let z : n + 0 ≡ n = omega arith in let f = ap (column_of s y) z in omega (arith, f)
    each (suc j) h = column_of-behind s y n (suc j) (omega arith)

-- which is what a full list holds
pub columns-held : (s : Switches) (y : Layout) (len : ℕ) (columns : List ℕ) → columns ≡ map (column_of s y) (upto (len + 1)) → AreColumns s y len columns
unfolding column_in
columns-held s y len columns full = λ k h.
    let z : 0 + k ≡ k = omega arith in
    let below : k < len + 1 = omega arith in
    unwrap_or-slice_get columns k k ∙ ap (λ t. get_or t k k) full ∙ get_or-map-range_with_len (column_of s y) 0 (len + 1) k k k below z

-- so it is with all places of a text and its end
pub whole-held : (t : ℕ) (text columns : List ℕ) → columns ≡ map (whole_column t text) (upto (length text)) ++ whole_column t text (length text) ∷ []
    → AreWholeColumns t text columns
unfolding column_in
whole-held t text columns full = λ k h.
    let n = length text in
    let y : 0 + n ≡ n = omega arith in
    let z : 0 + k ≡ k = omega arith in
    let below : k < n + 1 = omega (arith, h) in
    unwrap_or-slice_get columns k k ∙ ap (λ t. get_or t k k) (full ∙ sym (map-range_with_len_more (whole_column t text) 0 n n y))
    ∙ get_or-map-range_with_len (whole_column t text) 0 (n + 1) k k k below z
