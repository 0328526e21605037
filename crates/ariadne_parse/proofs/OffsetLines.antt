-- The line of an offset: lines begin one behind the other, so those that begin up to there are the first.
use Rattle.std.proofs.Common.{◌≡◌, ◌∙◌, ap, sym, refl, ℕ, suc, zero, ◌+◌, ◌<◌, ◌≤◌, Bool, true, false, eqb, cond, List, [], ◌∷◌, length, get_or, arith}
use Rattle.std.proofs.Common.{drop, take, ◌-◌, unwrap_or}
use Rattle.std.specs.Prelude.{count_by, nat_le}
use Rattle.std.specs.List.Sorted.{IsPartitionPoint, IsPartitionedBy}
use Rattle.std.proofs.lemmas.Bool.Decides.{nat_tests}
use Rattle.std.proofs.lemmas.Bool.{false≢true}
use Rattle.std.proofs.lemmas.List.{drop-take, get_or_default}
use Rattle.std.proofs.lemmas.List.Sums.{count_by-le-length, sum_by-cons}
use Rattle.std.proofs.lemmas.Option.{unwrap_or-slice_get}
use Rattle.ariadne_parse.specs.Columns.{begins_behind, line_at, line_begins, line_start, start_at}

-- of a list with a number in front of it, or without it: each is above a bound
above_found : (b : Bool) (n : ℕ) (xs : List ℕ) (at i d : ℕ) → at < n → ((j : ℕ) → j < length xs → at < get_or xs j d)
    → i < length (cond b (n ∷ xs) xs) → at < get_or (cond b (n ∷ xs) xs) i d
above_found true n xs at zero d above rest lt = above
above_found true n xs at (suc i) d above rest lt = rest i (omega arith)
above_found false n xs at i d above rest lt = rest i lt

begins_above : (at : ℕ) (t : List ℕ) (i d : ℕ) → i < length (begins_behind at t) → at < get_or (begins_behind at t) i d
unfolding begins_behind
begins_above at [] i d lt = omega arith
begins_above at (c ∷ t) i d lt =
    above_found (eqb c 10) (at + 1) (begins_behind (at + 1) t) at i d (omega arith)
    (λ j within. let more = begins_above (at + 1) t j d within in omega arith) lt

-- and they rise
rise_found : (b : Bool) (n : ℕ) (xs : List ℕ) (i j d : ℕ) → ((k : ℕ) → k < length xs → n < get_or xs k d)
    → ((k l : ℕ) → k ≤ l → l < length xs → get_or xs k d ≤ get_or xs l d) → i ≤ j → j < length (cond b (n ∷ xs) xs)
    → get_or (cond b (n ∷ xs) xs) i d ≤ get_or (cond b (n ∷ xs) xs) j d
rise_found true n xs zero zero d above rest le lt = omega arith
rise_found true n xs zero (suc j) d above rest le lt = let more = above j (omega arith) in omega arith
rise_found true n xs (suc i) zero d above rest le lt = absurd (omega arith)
rise_found true n xs (suc i) (suc j) d above rest le lt = rest i j (omega arith) (omega arith)
rise_found false n xs i j d above rest le lt = rest i j le lt

begins_rise : (at : ℕ) (t : List ℕ) (i j d : ℕ) → i ≤ j → j < length (begins_behind at t)
    → get_or (begins_behind at t) i d ≤ get_or (begins_behind at t) j d
unfolding begins_behind
begins_rise at [] i j d le lt = absurd (omega arith)
begins_rise at (c ∷ t) i j d le lt =
    rise_found (eqb c 10) (at + 1) (begins_behind (at + 1) t) i j d (λ k within. begins_above (at + 1) t k d within)
    (λ k l less within. begins_rise (at + 1) t k l d less within) le lt

lines_rise : (t : List ℕ) (i j d : ℕ) → i ≤ j → j < length (line_begins t) → get_or (line_begins t) i d ≤ get_or (line_begins t) j d
lines_rise t i j d le lt =
    rise_found true 0 (begins_behind 0 t) i j d (λ k within. begins_above 0 t k d within)
    (λ k l less within. begins_rise 0 t k l d less within) le lt

-- so those up to an offset are the first
pub up_to_first : (t : List ℕ) (offset : ℕ) → IsPartitionedBy (λ begin. nat_le begin offset) (line_begins t)
up_to_first t offset i j d le lt up =
    let rise = lines_rise t i j d le lt in
    grind (arith, nat_tests)

-- ---- as many as pass

count_is : (p : ℕ → Bool) (xs : List ℕ) (k : ℕ) → k ≤ length xs → ((j d : ℕ) → j < k → p (get_or xs j d) ≡ true)
    → ((j d : ℕ) → k ≤ j → j < length xs → p (get_or xs j d) ≡ false) → count_by p xs ≡ k
count_is p [] k le pass fail = omega arith
count_is p (x ∷ xs) zero le pass fail =
    let rest = count_is p xs zero (omega arith) (λ j d lt. absurd (omega arith)) (λ j d above lt. fail (suc j) d (omega arith) (omega arith)) in
    sum_by-cons (λ y. cond (p y) 1 0) x xs ∙ rw (fail zero x (omega arith) (omega arith)) (omega arith)
count_is p (x ∷ xs) (suc k) le pass fail =
    let rest = count_is p xs k (omega arith) (λ j d lt. pass (suc j) d (omega arith))
    (λ j d above lt. fail (suc j) d (omega arith) (omega arith)) in
    sum_by-cons (λ y. cond (p y) 1 0) x xs ∙ rw (pass zero x (omega arith)) (omega arith)

-- the point behind them is their number
pub counted : (p : ℕ → Bool) (xs : List ℕ) (k : ℕ) → k ≤ length xs
    → IsPartitionPoint (λ y. p y ≡ true) (λ y. p y ≡ false) xs k → k ≡ count_by p xs
counted p xs k le point =
    sym (count_is p xs k le (λ j d lt. point.0 j d (omega arith) lt) (λ j d above lt. point.1 j d above lt))

-- ---- where the line of an offset begins

one_at_most : (b : Bool) → cond b 1 0 ≤ 1
one_at_most true = omega arith
one_at_most false = omega arith

false_behind : (b : Bool) → (b ≡ true → ⊥) → b ≡ false
false_behind true h = absurd (h refl)
false_behind false h = refl

-- no more pass than stand in front of those that fail
count_within : (p : ℕ → Bool) (xs : List ℕ) (k : ℕ) → ((j d : ℕ) → k ≤ j → j < length xs → p (get_or xs j d) ≡ false)
    → count_by p xs ≤ k
count_within p [] k fail = omega arith
count_within p (x ∷ xs) zero fail =
    let rest = count_within p xs zero (λ j d above lt. fail (suc j) d (omega arith) (omega arith)) in
    let all = sum_by-cons (λ y. cond (p y) 1 0) x xs in
    let first : p x ≡ false = fail zero x (omega arith) (omega arith) in
    let one : cond {A = ℕ} (p x) 1 0 ≡ 0 = ap {A = Bool} {B = ℕ} (λ b. cond b 1 0) first in
    omega (arith, all, one, rest)
count_within p (x ∷ xs) (suc k) fail =
    let rest = count_within p xs k (λ j d above lt. fail (suc j) d (omega arith) (omega arith)) in
    let all = sum_by-cons (λ y. cond (p y) 1 0) x xs in
    let one : cond {A = ℕ} (p x) 1 0 ≤ 1 = one_at_most (p x) in
    omega (arith, all, one, rest)

-- those that pass stand in front
passes_below : (p : ℕ → Bool) (xs : List ℕ) (k d : ℕ) (b : Bool) → IsPartitionedBy p xs → k < count_by p xs → k < length xs
    → p (get_or xs k d) ≡ b → p (get_or xs k d) ≡ true
passes_below p xs k d true parted lt within is = is
passes_below p xs k d false parted lt within is =
    let few : count_by p xs ≤ k =
    count_within p xs k (λ j e above below. false_behind (p (get_or xs j e))
    (λ t. absurd (false≢true (sym is ∙ ap p (get_or_default xs k d e within) ∙ parted k j e above below t)))) in
    absurd (omega (arith, few))

start_from : (t : List ℕ) (offset k : ℕ) → k ≡ line_at t offset → unwrap_or (line_start t k) 0 ≤ offset
unfolding line_start
start_from t offset zero e = omega arith
start_from t offset (suc i) e =
    let up : ℕ → Bool = λ begin. nat_le begin offset in
    let within : i < length (line_begins t) = omega (arith, e, count_by-le-length up (line_begins t)) in
    let passes : up (get_or (line_begins t) i 0) ≡ true =
    passes_below up (line_begins t) i 0 (up (get_or (line_begins t) i 0)) (up_to_first t offset) (omega (arith, e)) within refl in
    let low : get_or (line_begins t) i 0 ≤ offset = grind (arith, nat_tests) in
    let same = unwrap_or-slice_get (line_begins t) i 0 in
    omega (arith, same, low)

-- in front of it
pub start_up_to : (t : List ℕ) (offset : ℕ) → start_at t offset ≤ offset
start_up_to t offset = start_from t offset (line_at t offset) refl

-- what stands between
pub between : (t : List ℕ) (start offset : ℕ) → start ≤ offset → take (offset - start) (drop start t) ≡ drop start (take offset t)
between t start offset le =
    let whole : start + (offset - start) ≡ offset = omega arith in
    sym (drop-take start (offset - start) t) ∙ ap (λ n. drop start (take n t)) whole
