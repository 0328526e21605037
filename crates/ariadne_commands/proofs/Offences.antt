-- The first offence of a text, as its characters are read one after another.
use Rattle.std.proofs.Common.{◌≡◌, refl, sym, ap, subst, ◌∙◌, arith, tests, append_assoc, append-nil}
use Rattle.std.specs.Prelude.{ℕ, ◌+◌, ◌<◌, ◌≤◌, ◌≢◌, true, false, nat_eq, List, [], ◌∷◌, ◌++◌, length, take, drop, reverse, slice_get}
use Rattle.std.specs.Prelude.{Option, Some, None, IsSome, option_map, option_to_list, slice_index_or}
use Rattle.std.specs.List.{enumerate_from}
use Rattle.std.specs.Iterator.{Yields}
use Rattle.std.specs.Iterator.Adapters.{enumerate_count, enumerate_source, enumerate_steps}
use Rattle.std.specs.declared.iter.Enumerate.{Enumerate}
use Rattle.std.proofs.lemmas.Iterator.{YieldsList}
use Rattle.std.proofs.lemmas.Iterator.Consumers.{YieldsList-at, YieldsList-end, YieldsList-from_enumerate, YieldsList-turn}
use Rattle.std.proofs.Math.Seq.{drop-append-add}
use Rattle.std.proofs.lemmas.List.{length-append, length-take-le, reverse-append, take-append-drop, take-append-le, take_all, take_more}
use Rattle.std.proofs.lemmas.List.FromFn.{get_or-enumerate_from, length-enumerate_from}
use Rattle.ariadne_commands.specs.declared.offence.OpenBracket.{OpenBracket}
use Rattle.ariadne_commands.specs.declared.offence.Offence.{Offence}
use Rattle.ariadne_commands.specs.declared.offence.Offence.TheVariants.{Unclosed}
use Rattle.ariadne_commands.specs.Brackets.{closing_of, is_closing, BeginsBalanced, BreaksAt, IsBalanced, IsFirstOffence, IsMismatched}
use Rattle.ariadne_commands.specs.Brackets.{IsUnclosed, IsUnopened, OpensAt, plain}
use Rattle.ariadne_commands.proofs.Stacks.{begins_less, EndsOpen, IsOpen, open_balanced, open_begins, open_closing, open_opening, open_waited}
use Rattle.ariadne_commands.proofs.Stacks.{stuck, stuck_mismatched, stuck_unopened, waited, waiting_unbalanced}

-- the character between two texts
get_between : {A : Type 0} (xs : List A) (x : A) (ys : List A) → slice_get (xs ++ x ∷ ys) (length xs) ≡ Some x
get_between [] x ys = refl
get_between (y ∷ xs) x ys = get_between xs x ys

-- and what is behind it
drop_between : {A : Type 0} (xs : List A) (x : A) (ys : List A) → drop (length xs + 1) (xs ++ x ∷ ys) ≡ ys
drop_between xs x ys = drop-append-add xs (x ∷ ys) 1

-- numbers that differ fail the test
not_same : (a b : ℕ) → a ≢ b → nat_eq a b ≡ false
not_same a b ne = grind (arith, tests)

-- ---- the last open bracket of a text

-- by the parts of the text
opens_between : (before inside more text : List ℕ) (opening closing offset : ℕ) → text ≡ before ++ opening ∷ inside → offset ≡ length before
    → closing_of opening ≡ Some closing → OpensAt (text ++ more) offset
opens_between before inside more text opening closing offset whole stands pair =
    rw (stands, whole, append_assoc before (opening ∷ inside) more, get_between before opening (inside ++ more), pair) refl

behind_between : (before inside text : List ℕ) (opening offset : ℕ) → text ≡ before ++ opening ∷ inside → offset ≡ length before
    → drop (offset + 1) text ≡ inside
behind_between before inside text opening offset whole stands = rw (stands, whole) (drop_between before opening inside)

module _ (Before : List ℕ → Type 0) (bracket : OpenBracket) (text : List ℕ) where
  -- there is an opening bracket where it stands, also in a longer text
  last_opens : (more : List ℕ) → EndsOpen bracket text Before → OpensAt (text ++ more) bracket.offset
  last_opens more top = opens_between top.before top.inside more text top.opening bracket.closing bracket.offset top.text_is top.stands top.pair

  -- it stands in the text
  last_below : EndsOpen bracket text Before → bracket.offset < length text
  last_below top =
      let lengths = ap length top.text_is ∙ length-append top.before (top.opening ∷ top.inside) in
      let stands = top.stands in
      omega arith

  -- and what is behind it is balanced
  last_behind : EndsOpen bracket text Before → IsBalanced (drop (bracket.offset + 1) text)
  last_behind top = rw (behind_between top.before top.inside text top.opening bracket.offset top.text_is top.stands) top.balanced

-- the last one of a list is the first one of what it is backwards
backwards : (items old : List OpenBracket) (bracket : OpenBracket) → old ≡ items ++ bracket ∷ [] → reverse old ≡ bracket ∷ reverse items
backwards items old bracket is = rw is (reverse-append items (bracket ∷ []))

-- a turn is at the next character
pub record IsNext (cs : List ℕ) (n c : ℕ) : Type 0 where
  pub within : n < length cs
  pub more : take (n + 1) cs ≡ take n cs ++ c ∷ []

-- ---- a `for` over the numbered characters of a text, which has yielded these so far

module _ {S : Type 0} {steps : S → Option ℕ → S → Type 0} {source : S} {numbered started : Enumerate S} (cs : List ℕ)
    (read : YieldsList steps (λ c. c) source cs) (is_source : enumerate_source numbered ≡ source) (from_zero : enumerate_count numbered ≡ 0)
    (starts : started ≡ numbered) where
  whole : YieldsList {B = ℕ × ℕ} (enumerate_steps steps) (λ p. (p.0, p.1)) started (enumerate_from 0 cs)
  whole = YieldsList-at starts (YieldsList-from_enumerate {s = numbered} (YieldsList-at is_source read) from_zero)

  -- a turn is at the next one
  pub turn : (yielded : List (ℕ × ℕ)) (now : Enumerate S) → Yields (enumerate_steps steps) started yielded now
      → (next : Option (ℕ × ℕ)) (after : Enumerate S) (offset c : ℕ) → next ≡ Some (offset, c) → enumerate_steps steps now next after
      → (offset ≡ length yielded) × IsNext cs (length yielded) c
  turn yielded now led next after offset c is step =
      let n = length yielded in
      let t = YieldsList-turn whole yielded now led next after (offset, c) is step in
      let all = length-enumerate_from 0 cs in
      let inside : n < length cs = omega (arith, t.0, all) in
      let both : ◌≡◌ {A = ℕ × ℕ} (offset, c) (0 + n, slice_index_or cs n c) = t.1 ∙ get_or-enumerate_from 0 cs n (offset, c) inside in
      let same : offset ≡ 0 + n = ap (λ (p : ℕ × ℕ). p.0) both in
      let here : c ≡ slice_index_or cs n c = ap (λ (p : ℕ × ℕ). p.1) both in
      (omega (arith, same), record { within = inside; more = take_more cs n c inside ∙ ap (λ x. take n cs ++ x ∷ []) (sym here) })

  -- the end comes behind the last one
  pub at_end : (yielded : List (ℕ × ℕ)) (now : Enumerate S) → Yields (enumerate_steps steps) started yielded now
      → (next : Option (ℕ × ℕ)) (after : Enumerate S) → next ≡ None → enumerate_steps steps now next after → take (length yielded) cs ≡ cs
  at_end yielded now led next after is step =
      let e = YieldsList-end whole yielded now led next after is step in
      let same : length yielded ≡ length cs = e.1 ∙ length-enumerate_from 0 cs in
      take_all (length yielded) cs (omega arith)

-- ---- a turn

module _ (cs : List ℕ) (n c : ℕ) (next : IsNext cs n c) where
  size : length (take n cs) ≡ n
  size = length-take-le n cs (omega (arith, next.within))

  -- each beginning up to here begins a balanced text where this one does
  all_before : BeginsBalanced (take n cs) → (k : ℕ) → k ≤ n → BeginsBalanced (take k cs)
  all_before begins k below =
      let inside : k ≤ length (take n cs) = omega (arith, size) in
      let same : take k cs ≡ take k (take n cs) = ap (take k) (sym (take-append-drop n cs)) ∙ take-append-le k (take n cs) (drop n cs) inside in
      rw same (begins_less (take n cs) k begins)

  -- the text breaks here
  breaks : BeginsBalanced (take n cs) → waited [] (take n cs ++ c ∷ []) ≡ None → BreaksAt cs n
  breaks begins none = record {
    within = next.within;
    begins_none = rw next.more (stuck _ none);
    shortest = all_before begins;
  }

  -- an opening bracket
  pub next_opening : (items new : List OpenBracket) (bracket : OpenBracket) → IsOpen (reverse items) (take n cs) → closing_of c ≡ Some bracket.closing
      → bracket.offset ≡ n → new ≡ items ++ bracket ∷ [] → IsOpen (reverse new) (take (n + 1) cs)
  next_opening items new bracket is pair at pushed =
      let same : bracket ≡ record { offset = length (take n cs); closing = bracket.closing } =
      ap (λ (o : ℕ). let b : OpenBracket = record { offset = o; closing = bracket.closing } in b) (at ∙ sym size) in
      rw (backwards items new bracket pushed, next.more, same) (open_opening (reverse items) (take n cs) c bracket.closing is pair)

  -- the closing bracket of the last open one
  pub next_closing : (old new : List OpenBracket) (bracket : OpenBracket) → IsOpen (reverse old) (take n cs) → bracket.closing ≡ c
      → old ≡ new ++ bracket ∷ [] → IsOpen (reverse new) (take (n + 1) cs)
  next_closing old new bracket is same popped =
      rw (next.more, ← same) (open_closing bracket (reverse new) (take n cs) (rw (backwards new old bracket popped) at is))

  -- any other character
  pub next_plain : (items : List OpenBracket) → IsOpen (reverse items) (take n cs) → closing_of c ≡ None → is_closing c ≡ false
      → IsOpen (reverse items) (take (n + 1) cs)
  next_plain items is opens_none closes_none =
      rw next.more (open_balanced (reverse items) (take n cs) (c ∷ []) is (plain c (record { opens_none = opens_none; closes_none = closes_none })))

  -- a closing bracket where none is open
  pub found_unopened : (items : List OpenBracket) → IsOpen (reverse items) (take n cs) → closing_of c ≡ None → is_closing c ≡ true → items ≡ []
      → IsUnopened cs n
  unfolding IsOpen
  found_unopened items is opens_none closes_one none =
      let balanced : IsBalanced (take n cs) = rw none at is in
      record {
        breaks = breaks (open_begins [] (take n cs) balanced) (stuck_unopened (take n cs) c opens_none closes_one (open_waited [] (take n cs) balanced));
        balanced = balanced;
      }

  -- a closing bracket of another kind than the last open one
  pub found_mismatched : (old new : List OpenBracket) (bracket : OpenBracket) → IsOpen (reverse old) (take n cs) → closing_of c ≡ None
      → is_closing c ≡ true → bracket.closing ≢ c → old ≡ new ++ bracket ∷ [] → IsMismatched cs bracket.offset n
  unfolding IsOpen
  found_mismatched old new bracket is opens_none closes_one other popped =
      let top : EndsOpen bracket (take n cs) (IsOpen (reverse new)) = rw (backwards new old bracket popped) at is in
      let some = open_waited (bracket ∷ reverse new) (take n cs) top in
      record {
        breaks = breaks (open_begins (bracket ∷ reverse new) (take n cs) top) (stuck_mismatched (take n cs) c bracket.closing _ opens_none closes_one (not_same _ _ other) some);
        unbalanced = waiting_unbalanced (take n cs) bracket.closing _ some;
        opens = subst (λ t. OpensAt t bracket.offset) (take-append-drop n cs) (last_opens _ bracket (take n cs) (drop n cs) top);
        before = omega (arith, size, last_below _ bracket (take n cs) top);
        balanced = last_behind _ bracket (take n cs) top;
      }

module _ (cs : List ℕ) where
  -- at the end nothing is open
  pub found_none : (items : List OpenBracket) → IsOpen (reverse items) cs → items ≡ [] → IsBalanced cs
  unfolding IsOpen
  found_none items is none = rw none at is

  -- at the end a bracket is open
  pub found_unclosed : (old new : List OpenBracket) (bracket : OpenBracket) → IsOpen (reverse old) cs → old ≡ new ++ bracket ∷ []
      → IsUnclosed cs bracket.offset
  unfolding IsOpen
  found_unclosed old new bracket is popped =
      let top : EndsOpen bracket cs (IsOpen (reverse new)) = rw (backwards new old bracket popped) at is in
      record {
        all_begin = λ k. begins_less cs k (open_begins (bracket ∷ reverse new) cs top);
        unbalanced = waiting_unbalanced cs bracket.closing _ (open_waited (bracket ∷ reverse new) cs top);
        opens = subst (λ t. OpensAt t bracket.offset) (append-nil cs) (last_opens _ bracket cs [] top);
        balanced = last_behind _ bracket cs top;
      }

  -- a list whose last element was not there has none
  none_open : (old : List OpenBracket) → (0 < length old → IsSome {T = OpenBracket} None) → old ≡ []
  none_open [] there = refl
  none_open (bracket ∷ old) there = let none = there (omega arith) in absurd cc

  -- at the end: the last one that is open, if there is one
  pub found_last : (old new : List OpenBracket) (last : Option OpenBracket) (found : Option Offence) → IsOpen (reverse old) cs
      → old ≡ new ++ option_to_list last → (0 < length old → IsSome last) → found ≡ option_map (λ b. Unclosed b.offset) last
      → IsFirstOffence cs found
  found_last old new (Some bracket) found is popped there same = rw same (found_unclosed old new bracket is popped)
  found_last old new None found is popped there same = rw same (found_none old is (none_open old there))
