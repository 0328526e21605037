-- A text has one first offence.
use Rattle.std.proofs.Common.{◌≡◌, refl, sym, ap, subst, ◌∙◌, arith, append-nil}
use Rattle.std.specs.Prelude.{ℕ, suc, ◌+◌, ◌<◌, List, [], ◌∷◌, ◌++◌, length, take, drop, get_or, slice_get}
use Rattle.std.specs.Prelude.{Option, Some, None, option_and_then, IsSome, IsSomeAnd}
use Rattle.std.proofs.Math.Nat.{lt_of_not-le}
use Rattle.std.proofs.Math.Seq.{split_at}
use Rattle.std.proofs.lemmas.List.{drop-append-le, get_or-take, length-take-le}
use Rattle.std.proofs.lemmas.Option.{get_or_from_slice_get, slice_get-get_or, slice_get_within}
use Rattle.ariadne_commands.specs.declared.offence.Offence.{Offence}
use Rattle.ariadne_commands.specs.declared.offence.Offence.TheVariants.{Unopened, Mismatched}
use Rattle.ariadne_commands.specs.declared.offence.Offence.TheVariants.{Unclosed}
use Rattle.ariadne_commands.specs.Brackets.{closing_of, AllBegin, BreaksAt}
use Rattle.ariadne_commands.specs.Brackets.{IsBalanced, IsFirstOffence, IsMismatched, OpensAt}
use Rattle.ariadne_commands.proofs.Stacks.{begins_less, waited, waited-append, waited-balanced}
use Rattle.ariadne_commands.proofs.Stacks.{waited-opening}

-- numbers of which neither is less are the same
same_number : (a b : ℕ) → ¬ (a < b) → ¬ (b < a) → a ≡ b
same_number a b not_less not_more =
    let above = lt_of_not-le not_less in
    let below = lt_of_not-le not_more in
    omega (arith, above, below)

-- ---- the last bracket that is open

-- behind an opening bracket and a balanced end its closing one is waited for
not_closed : (c closing : ℕ) (end : List ℕ) → closing_of c ≡ Some closing → IsBalanced end → (before : Option (List ℕ))
    → option_and_then (λ next. waited next (c ∷ end)) before ≡ Some [] → ⊥
not_closed c closing end pair balanced None same = cc
not_closed c closing end pair balanced (Some next) same =
    let waits = waited-opening next c closing end pair ∙ waited-balanced end balanced (closing ∷ next) in
    let both : Some (closing ∷ next) ≡ Some [] = sym waits ∙ same in
    cc

-- so such a text is not balanced
left_open : (front : List ℕ) (c closing : ℕ) (end : List ℕ) → closing_of c ≡ Some closing → IsBalanced end → ¬ IsBalanced (front ++ c ∷ end)
left_open front c closing end pair balanced whole =
    not_closed c closing end pair balanced (waited [] front)
    (sym (waited-append [] front (c ∷ end)) ∙ waited-balanced (front ++ c ∷ end) whole [])

-- what is behind an earlier character, by the parts of the text
behind : (text : List ℕ) (o n c : ℕ) → o < n → slice_get text n ≡ Some c
    → drop (o + 1) text ≡ drop (o + 1) (take n text) ++ c ∷ drop (n + 1) text
behind text o n c before here =
    let inside = slice_get_within text n c here in
    let size : length (take n text) ≡ n = length-take-le n text (omega (arith, inside)) in
    let cut : text ≡ take n text ++ get_or text n c ∷ drop (suc n) text = split_at text n c inside in
    let one : suc n ≡ n + 1 = omega arith in
    let parts = (rw one at cut) ∙ ap (λ x. take n text ++ x ∷ drop (n + 1) text) (get_or_from_slice_get text n c c here) in
    ap (drop (o + 1)) parts ∙ drop-append-le (o + 1) (take n text) (c ∷ drop (n + 1) text) (omega (arith, size, before))

-- behind an earlier character the text is not balanced
unbalanced_at : (text : List ℕ) (o n c closing : ℕ) → o < n → slice_get text n ≡ Some c → closing_of c ≡ Some closing
    → IsBalanced (drop (n + 1) text) → ¬ IsBalanced (drop (o + 1) text)
unbalanced_at text o n c closing before here pair balanced whole =
    left_open (drop (o + 1) (take n text)) c closing (drop (n + 1) text) pair balanced (subst IsBalanced (behind text o n c before here) whole)

-- by what closes what stands there
unbalanced_by : (text : List ℕ) (o n c : ℕ) → o < n → slice_get text n ≡ Some c → (closing : Option ℕ) → closing_of c ≡ closing → IsSome closing
    → IsBalanced (drop (n + 1) text) → ¬ IsBalanced (drop (o + 1) text)
unbalanced_by text o n c before here None pair opens balanced = λ whole. cc
unbalanced_by text o n c before here (Some closing) pair opens balanced = unbalanced_at text o n c closing before here pair balanced

-- by what stands there
unbalanced_before : (text : List ℕ) (o n : ℕ) → o < n → (there : Option ℕ) → slice_get text n ≡ there → IsSomeAnd there (λ c. IsSome (closing_of c))
    → IsBalanced (drop (n + 1) text) → ¬ IsBalanced (drop (o + 1) text)
unbalanced_before text o n before None here opens balanced = elim opens [ ]
unbalanced_before text o n before (Some c) here opens balanced = unbalanced_by text o n c before here (closing_of c) refl opens balanced

-- one bracket is open last
one_last : (text : List ℕ) (o n : ℕ) → OpensAt text o → IsBalanced (drop (o + 1) text) → OpensAt text n → IsBalanced (drop (n + 1) text) → o ≡ n
one_last text o n opens_o balanced_o opens_n balanced_n =
    same_number o n
    (λ less. unbalanced_before text o n less (slice_get text n) refl opens_n balanced_n balanced_o)
    (λ less. unbalanced_before text n o less (slice_get text o) refl opens_o balanced_o balanced_n)

-- ---- where a text breaks

-- it breaks at one place
one_break : (text : List ℕ) (p q : ℕ) → BreaksAt text p → BreaksAt text q → p ≡ q
one_break text p q at_p at_q =
    same_number p q
    (λ less. at_p.begins_none (at_q.shortest (p + 1) (omega (arith, less))))
    (λ less. at_q.begins_none (at_p.shortest (q + 1) (omega (arith, less))))

-- and nowhere where each beginning begins a balanced text
no_break : (text : List ℕ) (p : ℕ) → AllBegin text → ¬ BreaksAt text p
no_break text p all breaks = breaks.begins_none (all (p + 1))

-- as those of a balanced text do
all_of_balanced : (text : List ℕ) → IsBalanced text → AllBegin text
all_of_balanced text balanced n = begins_less text n ([], rw append-nil balanced)

-- what opens in a text opens in a beginning of it
opens_less : (text : List ℕ) (o p : ℕ) → o < p → p < length text → OpensAt text o → OpensAt (take p text) o
opens_less text o p before within opens =
    let size : length (take p text) ≡ p = length-take-le p text (omega (arith, within)) in
    let less = slice_get-get_or (take p text) o 0 (omega (arith, size, before)) in
    let whole = slice_get-get_or text o 0 (omega (arith, within, before)) in
    let same : slice_get text o ≡ slice_get (take p text) o = whole ∙ ap Some (sym (get_or-take p text o 0 before)) ∙ sym less in
    rw same at opens

-- one bracket is the one to be closed where a text breaks
one_open : (text : List ℕ) (o n p : ℕ) → o < p → n < p → p < length text → OpensAt text o → OpensAt text n
    → IsBalanced (drop (o + 1) (take p text)) → IsBalanced (drop (n + 1) (take p text)) → o ≡ n
one_open text o n p o_before n_before within opens_o opens_n balanced_o balanced_n =
    one_last (take p text) o n (opens_less text o p o_before within opens_o) balanced_o (opens_less text n p n_before within opens_n) balanced_n

-- ---- the first offence

-- two mismatches of one text are the same
same_mismatch : (text : List ℕ) (o p n q : ℕ) → IsMismatched text o p → IsMismatched text n q → Mismatched o p ≡ Mismatched n q
same_mismatch text o p n q a b =
    let place = one_break text p q a.breaks b.breaks in
    let before : n < p = rw place b.before in
    let balanced : IsBalanced (drop (n + 1) (take p text)) = rw place b.balanced in
    let same = one_open text o n p a.before before a.breaks.within a.opens b.opens a.balanced balanced in
    rw (place, same) refl

-- two offences of one text are the same
pub same_offence : (text : List ℕ) (a b : Option Offence) → IsFirstOffence text a → IsFirstOffence text b → a ≡ b
same_offence text None None a b = refl
same_offence text None (Some (Unopened q)) a b = elim (no_break text q (all_of_balanced text a) b.breaks) [ ]
same_offence text None (Some (Mismatched n q)) a b = elim (no_break text q (all_of_balanced text a) b.breaks) [ ]
same_offence text None (Some (Unclosed n)) a b = elim (b.unbalanced a) [ ]
same_offence text (Some (Unopened p)) None a b = elim (no_break text p (all_of_balanced text b) a.breaks) [ ]
same_offence text (Some (Unopened p)) (Some (Unopened q)) a b = rw (one_break text p q a.breaks b.breaks) refl
same_offence text (Some (Unopened p)) (Some (Mismatched n q)) a b =
    elim (b.unbalanced (rw (← one_break text p q a.breaks b.breaks) a.balanced)) [ ]
same_offence text (Some (Unopened p)) (Some (Unclosed n)) a b = elim (no_break text p b.all_begin a.breaks) [ ]
same_offence text (Some (Mismatched o p)) None a b = elim (no_break text p (all_of_balanced text b) a.breaks) [ ]
same_offence text (Some (Mismatched o p)) (Some (Unopened q)) a b =
    elim (a.unbalanced (rw (one_break text p q a.breaks b.breaks) b.balanced)) [ ]
same_offence text (Some (Mismatched o p)) (Some (Mismatched n q)) a b = ap Some (same_mismatch text o p n q a b)
same_offence text (Some (Mismatched o p)) (Some (Unclosed n)) a b = elim (no_break text p b.all_begin a.breaks) [ ]
same_offence text (Some (Unclosed o)) None a b = elim (a.unbalanced b) [ ]
same_offence text (Some (Unclosed o)) (Some (Unopened q)) a b = elim (no_break text q a.all_begin b.breaks) [ ]
same_offence text (Some (Unclosed o)) (Some (Mismatched n q)) a b = elim (no_break text q a.all_begin b.breaks) [ ]
same_offence text (Some (Unclosed o)) (Some (Unclosed n)) a b =
    rw (one_last text o n a.opens a.balanced b.opens b.balanced) refl
