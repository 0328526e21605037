-- What is seen of the places of a line of which parts are shown that stand apart: before a part, within it, and behind the last.
use Rattle.std.proofs.Common.{◌≡◌, ◌∙◌, ℕ, zero, suc, ◌+◌, ◌-◌, ◌<◌, ◌≤◌, Bool, true, false, List, [], ◌∷◌, length, get_or, take, refl, ap, arith}
use Rattle.std.specs.Prelude.{◌&&◌, ◌||◌, nat_le, nat_lt}
use Rattle.std.specs.List.{list_all}
use Rattle.std.proofs.lemmas.Bool.{cond-true, cond-false, le-leb, lt-leb, lt-ltb, le-ltb, and_from, and_left, and_right, or_from}
use Rattle.std.proofs.lemmas.List.Folds.{list_any_at}
use Rattle.ariadne_picture.specs.declared.sight.Part.{Part}
use Rattle.ariadne_picture.specs.declared.sight.Sight.TheVariants.{Seen, Marked, Unseen}
use Rattle.ariadne_picture.specs.Columns.{is_in, sight_in}
use Rattle.ariadne_layout.specs.Cuts.{AreApart, AreFrom, end_of}

-- a part has a place
abbrev has : Part → ℕ → Bool
has p k = nat_le p.from k && nat_lt k p.to

-- a place before a part, or behind it
has-before : (p : Part) (k : ℕ) → k < p.from → has p k ≡ false
has-before p k before = and_left (nat_le p.from k) (nat_lt k p.to) (lt-leb p.from k before)

has-behind : (p : Part) (k : ℕ) → p.to ≤ k → has p k ≡ false
has-behind p k behind = and_right (nat_le p.from k) (nat_lt k p.to) (le-ltb k p.to behind)

has-within : (p : Part) (k : ℕ) → p.from ≤ k → k < p.to → has p k ≡ true
has-within p k from to = and_from (nat_le p.from k) (nat_lt k p.to) (le-leb p.from k from) (lt-ltb k p.to to)

-- ---- where parts begin and end

-- each begins where they do or behind, and has a place
pub part-from : (n : ℕ) (parts : List Part) (i : ℕ) (d : Part) → AreFrom n parts → i < length parts
    → (n ≤ (get_or parts i d).from) × ((get_or parts i d).from < (get_or parts i d).to)
unfolding AreFrom
part-from n [] i d apart below = absurd (omega (arith, below))
part-from n (p ∷ parts) zero d apart below = (apart.0, apart.1)
part-from n (p ∷ parts) (suc i) d apart below =
    let rest = part-from (p.to + 1) parts i d apart.2 (omega (arith, below)) in
    (omega (arith, apart.0, apart.1, rest.0), rest.1)

-- the first of them stand apart too
from-take : (n : ℕ) (parts : List Part) (i : ℕ) → AreFrom n parts → AreFrom n (take i parts)
unfolding AreFrom
from-take n [] zero apart = tt
from-take n [] (suc i) apart = tt
from-take n (p ∷ parts) zero apart = tt
from-take n (p ∷ parts) (suc i) apart = (apart.0, apart.1, from-take (p.to + 1) parts i apart.2)

-- they end where they begin or behind
end-up : (n e : ℕ) (parts : List Part) → AreFrom n parts → e ≤ n → e ≤ end_of e parts
unfolding AreFrom end_of
end-up n e [] apart up = omega arith
end-up n e (p ∷ parts) apart up =
    let rest = end-up (p.to + 1) p.to parts apart.2 (omega arith) in
    omega (arith, apart.0, apart.1, rest, up)

-- those before a part end before it
end-before : (n e : ℕ) (parts : List Part) (i : ℕ) (d : Part) → AreFrom n parts → e ≤ n → i < length parts
    → e < (get_or parts i d).from → end_of e (take i parts) < (get_or parts i d).from
unfolding AreFrom end_of
end-before n e [] i d apart up below behind = absurd (omega (arith, below))
end-before n e (p ∷ parts) zero d apart up below behind = behind
end-before n e (p ∷ parts) (suc i) d apart up below behind =
    let there = part-from (p.to + 1) parts i d apart.2 (omega (arith, below)) in
    end-before (p.to + 1) p.to parts i d apart.2 (omega arith) (omega (arith, below)) (omega (arith, there.0))

-- or where it begins
end-most : (n e : ℕ) (parts : List Part) (i : ℕ) (d : Part) → AreFrom n parts → e ≤ n → i < length parts → end_of e (take i parts) ≤ (get_or parts i d).from
unfolding AreFrom end_of
end-most n e [] i d apart up below = absurd (omega (arith, below))
end-most n e (p ∷ parts) zero d apart up below = omega (arith, up, apart.0)
end-most n e (p ∷ parts) (suc i) d apart up below = end-most (p.to + 1) p.to parts i d apart.2 (omega arith) (omega (arith, below))

pub end-low : (parts : List Part) (i : ℕ) (d : Part) → AreApart parts → i < length parts
    → (0 < (get_or parts i d).from → end_of 0 (take i parts) < (get_or parts i d).from) × (end_of 0 (take i parts) ≤ (get_or parts i d).from)
end-low parts i d apart below = (end-before 0 0 parts i d apart (omega arith) below, end-most 0 0 parts i d apart (omega arith) below)

-- one part more ends where it does
end-at : (e : ℕ) (parts : List Part) (i : ℕ) (d : Part) → i < length parts → end_of e (take (suc i) parts) ≡ (get_or parts i d).to
unfolding end_of
end-at e [] i d below = absurd (omega (arith, below))
end-at e (p ∷ parts) zero d below = refl
end-at e (p ∷ parts) (suc i) d below = end-at p.to parts i d (omega (arith, below))

pub end-more : (e : ℕ) (parts : List Part) (i : ℕ) (d : Part) → i < length parts → end_of e (take (i + 1) parts) ≡ (get_or parts i d).to
end-more e parts i d below = let z : i + 1 ≡ suc i = omega arith in ap (λ m. end_of e (take m parts)) z ∙ end-at e parts i d below

-- ---- which places they have

-- none in front of all
before-all : (n : ℕ) (parts : List Part) (k : ℕ) → AreFrom n parts → k < n → is_in parts k ≡ false
unfolding AreFrom is_in
before-all n [] k apart before = refl
before-all n (p ∷ parts) k apart before =
    or_from (has p k) (is_in parts k) (has-before p k (omega (arith, before, apart.0)))
    (before-all (p.to + 1) parts k apart.2 (omega (arith, before, apart.0, apart.1)))

-- none between a part and those before it
in-between : (n e : ℕ) (parts : List Part) (i : ℕ) (d : Part) (k : ℕ) → AreFrom n parts → e ≤ n → i < length parts
    → end_of e (take i parts) ≤ k → k < (get_or parts i d).from → is_in parts k ≡ false
unfolding AreFrom is_in end_of
in-between n e [] i d k apart up below low high = absurd (omega (arith, below))
in-between n e (p ∷ parts) zero d k apart up below low high =
    or_from (has p k) (is_in parts k) (has-before p k high) (before-all (p.to + 1) parts k apart.2 (omega (arith, high, apart.1)))
in-between n e (p ∷ parts) (suc i) d k apart up below low high =
    let far = end-up (p.to + 1) p.to (take i parts) (from-take (p.to + 1) parts i apart.2) (omega arith) in
    or_from (has p k) (is_in parts k) (has-behind p k (omega (arith, far, low)))
    (in-between (p.to + 1) p.to parts i d k apart.2 (omega arith) (omega (arith, below)) low high)

-- those of a part
in-part : (parts : List Part) (i : ℕ) (d : Part) (k : ℕ) → i < length parts → (get_or parts i d).from ≤ k → k < (get_or parts i d).to
    → is_in parts k ≡ true
unfolding is_in
in-part parts i d k below from to = list_any_at (λ p. has p k) parts i d below (has-within (get_or parts i d) k from to)

-- none behind all
in-behind : (n e : ℕ) (parts : List Part) (k : ℕ) → AreFrom n parts → e ≤ n → end_of e parts ≤ k → is_in parts k ≡ false
unfolding AreFrom is_in end_of
in-behind n e [] k apart up behind = refl
in-behind n e (p ∷ parts) k apart up behind =
    let far = end-up (p.to + 1) p.to parts apart.2 (omega arith) in
    or_from (has p k) (is_in parts k) (has-behind p k (omega (arith, far, behind)))
    (in-behind (p.to + 1) p.to parts k apart.2 (omega arith) behind)

-- the last place of the last part
in-last : (n e : ℕ) (p : Part) (parts : List Part) → AreFrom n (p ∷ parts) → is_in (p ∷ parts) (end_of e (p ∷ parts) - 1) ≡ true
unfolding AreFrom is_in end_of
in-last n e p [] apart = ap (λ b. b || false) (has-within p (p.to - 1) (omega (arith, apart.1)) (omega (arith, apart.1)))
in-last n e p (q ∷ parts) apart =
    let far = end-up (p.to + 1) p.to (q ∷ parts) apart.2 (omega arith) in
    let next = end-up (q.to + 1) q.to parts apart.2.2 (omega arith) in
    let low = apart.2.0 in
    let some = apart.2.1 in
    let k = end_of q.to parts - 1 in
    ap (λ b. b || is_in (q ∷ parts) k) (has-behind p k (omega (arith, next, low, some))) ∙ in-last (p.to + 1) p.to q parts apart.2

-- all end where the last does, or before
all-ended : (n e : ℕ) (parts : List Part) (k : ℕ) → AreFrom n parts → end_of e parts ≤ k → list_all (λ (p : Part). nat_le p.to k) parts ≡ true
unfolding AreFrom end_of
all-ended n e [] k apart behind = refl
all-ended n e (p ∷ parts) k apart behind =
    let far = end-up (p.to + 1) p.to parts apart.2 (omega arith) in
    and_from (nat_le p.to k) (list_all (λ (p : Part). nat_le p.to k) parts) (le-leb p.to k (omega (arith, far, behind)))
    (all-ended (p.to + 1) p.to parts k apart.2 behind)

-- not all do where one ends later
some-later : (parts : List Part) (i : ℕ) (d : Part) (k : ℕ) → i < length parts → k < (get_or parts i d).to
    → list_all (λ (p : Part). nat_le p.to k) parts ≡ false
some-later [] i d k below later = absurd (omega (arith, below))
some-later (p ∷ parts) zero d k below later =
    and_left (nat_le p.to k) (list_all (λ (p : Part). nat_le p.to k) parts) (lt-leb p.to k later)
some-later (p ∷ parts) (suc i) d k below later =
    and_right (nat_le p.to k) (list_all (λ (p : Part). nat_le p.to k) parts) (some-later parts i d k (omega (arith, below)) later)

-- ---- what is seen

-- the test that a place stands right behind the last part
abbrev behind : List Part → ℕ → Bool
behind parts k = nat_lt 0 k && is_in parts (k - 1) && list_all (λ (p : Part). nat_le p.to k) parts

is-unseen : (parts : List Part) (k : ℕ) → is_in parts k ≡ false → is_in parts (k + 1) ≡ false → behind parts k ≡ false → sight_in parts k ≡ Unseen
unfolding sight_in
is-unseen parts k here next last =
    cond-false (is_in parts k) Seen _ here ∙ cond-false (is_in parts (k + 1) || behind parts k) Marked Unseen (or_from _ _ next last)

-- nothing of the places before a part
pub unseen-before : (parts : List Part) (i : ℕ) (d : Part) (k : ℕ) → AreApart parts → i < length parts
    → end_of 0 (take i parts) ≤ k → k + 1 < (get_or parts i d).from → sight_in parts k ≡ Unseen
unseen-before parts i d k apart below low high =
    let there = part-from 0 parts i d apart below in
    is-unseen parts k
    (in-between 0 0 parts i d k apart (omega arith) below low (omega (arith, high)))
    (in-between 0 0 parts i d (k + 1) apart (omega arith) below (omega (arith, low)) high)
    (and_right (nat_lt 0 k && is_in parts (k - 1)) _ (some-later parts i d k below (omega (arith, high, there.1))))

-- but of the last of them a mark
pub marked-before : (parts : List Part) (i : ℕ) (d : Part) (k : ℕ) → AreApart parts → i < length parts
    → end_of 0 (take i parts) ≤ k → k + 1 ≡ (get_or parts i d).from → sight_in parts k ≡ Marked
unfolding sight_in
marked-before parts i d k apart below low next =
    let there = part-from 0 parts i d apart below in
    let in_next : is_in parts (k + 1) ≡ true = in-part parts i d (k + 1) below (omega (arith, next)) (omega (arith, next, there.1)) in
    cond-false (is_in parts k) Seen _ (in-between 0 0 parts i d k apart (omega arith) below low (omega (arith, next)))
    ∙ cond-true (is_in parts (k + 1) || behind parts k) Marked Unseen (ap (λ b. b || behind parts k) in_next)

-- the places of a part
pub seen-within : (parts : List Part) (i : ℕ) (d : Part) (k : ℕ) → i < length parts → (get_or parts i d).from ≤ k → k < (get_or parts i d).to
    → sight_in parts k ≡ Seen
unfolding sight_in
seen-within parts i d k below from to = cond-true (is_in parts k) Seen _ (in-part parts i d k below from to)

-- a mark right behind the last
pub marked-behind : (parts : List Part) (k : ℕ) → AreApart parts → 0 < length parts → k ≡ end_of 0 parts → sight_in parts k ≡ Marked
unfolding sight_in AreFrom end_of
marked-behind [] k apart some is = absurd (omega (arith, some))
marked-behind (p ∷ parts) k apart some is =
    let far = end-up (p.to + 1) p.to parts apart.2 (omega arith) in
    let up : 0 < k = omega (arith, is, far, apart.1) in
    let before : is_in (p ∷ parts) (k - 1) ≡ true = ap (λ m. is_in (p ∷ parts) (m - 1)) is ∙ in-last 0 0 p parts apart in
    let all = all-ended 0 0 (p ∷ parts) k apart (omega (arith, is)) in
    let on : behind (p ∷ parts) k ≡ true = and_from (nat_lt 0 k && is_in (p ∷ parts) (k - 1)) _ (and_from (nat_lt 0 k) _ (lt-ltb 0 k up) before) all in
    cond-false (is_in (p ∷ parts) k) Seen _ (in-behind 0 0 (p ∷ parts) k apart (omega arith) (omega (arith, is)))
    ∙ cond-true (is_in (p ∷ parts) (k + 1) || behind (p ∷ parts) k) Marked Unseen
    (ap (λ b. b || behind (p ∷ parts) k) (in-behind 0 0 (p ∷ parts) (k + 1) apart (omega arith) (omega (arith, is))) ∙ on)

-- and nothing further on
pub unseen-behind : (parts : List Part) (k : ℕ) → AreApart parts → end_of 0 parts < k → sight_in parts k ≡ Unseen
unseen-behind parts k apart later =
    is-unseen parts k
    (in-behind 0 0 parts k apart (omega arith) (omega (arith, later)))
    (in-behind 0 0 parts (k + 1) apart (omega arith) (omega (arith, later)))
    (and_left (nat_lt 0 k && is_in parts (k - 1)) _ (and_right (nat_lt 0 k) _ (in-behind 0 0 parts (k - 1) apart (omega arith) (omega (arith, later)))))

-- where no parts are shown nothing is seen
pub unseen-none : (k : ℕ) → sight_in [] k ≡ Unseen
unfolding is_in
unseen-none k = is-unseen [] k refl refl (and_left (nat_lt 0 k && is_in [] (k - 1)) _ (and_right (nat_lt 0 k) (is_in [] (k - 1)) refl))
