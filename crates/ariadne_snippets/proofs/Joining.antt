-- The runs of a row, as they are found: those so far, joined with those of the rest.
use Rattle.std.proofs.Common.{◌≡◌, ◌∙◌, ap, sym, refl, ℕ, ◌+◌, ◌-◌, ◌*◌, ◌%◌, ◌^◌, ◌<◌, ◌≤◌, Bool, true, false, eqb, cond, ◌&&◌, List, [], ◌∷◌, ◌++◌, drop, length, get_or, append_assoc, Option, Some, None, IfSome, arith}
use borrow.Author.Tests.{eqb-true}
use Rattle.std.specs.Bool.{beq}
use Rattle.std.specs.Option.{option_or}
use Rattle.std.specs.List.{All, AllByRecursion}
use Rattle.std.proofs.lemmas.Bool.{and_parts}
use Rattle.std.proofs.lemmas.List.{at_drop_more, at_drop_all}
use Rattle.std.proofs.lemmas.List.Elements.{All-cons, All-nil}
use Rattle.ariadne_parse.specs.declared.unit.Unit.{Unit}
use Rattle.ariadne_parse.specs.declared.unit.Unit.TheVariants.{Byte, Char, Display, Utf16}
use Rattle.ariadne_snippets.specs.Marks.{goes_on, in_front, is_mark, joined, run_of, runs_from, width_of, with_last, IsNear}
use Rattle.ariadne_snippets.specs.declared.run.Run.{Run}

-- runs in front of others: the last and the first may be one
abbrev pub all_joined : List Run → List Run → List Run
all_joined [] others = others
all_joined (run ∷ []) others = in_front run others
all_joined (run ∷ next ∷ runs) others = run ∷ all_joined (next ∷ runs) others

-- runs that are joined go on as they do
same_dash : (a b c : Bool) → beq a b ≡ true → beq b c ≡ beq a c
same_dash true true c e = refl
same_dash true false c e = absurd (cc e)
same_dash false true c e = absurd (cc e)
same_dash false false c e = refl

first_of_three : (a b c : Option ℕ) → option_or (option_or a b) c ≡ option_or a (option_or b c)
first_of_three None b c = refl
first_of_three (Some x) b c = refl

-- what a run goes on with that goes on with another
goes_joined : (a b c : Run) → goes_on a b ≡ true → goes_on (joined a b) c ≡ goes_on b c
goes_joined a b c h =
    ap (λ d. eqb b.end c.start && d)
    (sym (same_dash a.is_dashed b.is_dashed c.is_dashed (and_parts (eqb a.end b.start) (beq a.is_dashed b.is_dashed) h).1))

-- three as one
joined_twice : (a b c : Run) → joined (joined a b) c ≡ joined a (joined b c)
joined_twice a b c =
    ap (λ caret. record {
      start = a.start;
      end = c.end;
      caret = caret;
      is_dashed = a.is_dashed;
    })
    (first_of_three a.caret b.caret c.caret)

-- two runs in front of others, by whether the first goes on with the second, and that with the third
three : (a b c : Run) (runs : List Run) (p q : Bool) → goes_on a b ≡ p → goes_on b c ≡ q
    → all_joined (cond p (joined a b ∷ []) (a ∷ b ∷ [])) (c ∷ runs)
    ≡ in_front a (cond q (joined b c ∷ runs) (b ∷ c ∷ runs))
three a b c runs true true e f =
    rw (goes_joined a b c e) (rw f (rw e (ap (λ x. x ∷ runs) (joined_twice a b c))))
three a b c runs true false e f = rw (goes_joined a b c e) (rw f (rw e refl))
three a b c runs false true e f = rw f (rw e refl)
three a b c runs false false e f = rw f (rw e refl)

two : (a b : Run) (p : Bool) → goes_on a b ≡ p
    → all_joined (cond p (joined a b ∷ []) (a ∷ b ∷ [])) [] ≡ in_front a (b ∷ [])
two a b true e = rw e refl
two a b false e = rw e refl

pair_in_front : (a b : Run) (rest : List Run)
    → all_joined (in_front a (b ∷ [])) rest ≡ in_front a (in_front b rest)
pair_in_front a b [] = two a b (goes_on a b) refl
pair_in_front a b (c ∷ runs) = three a b c runs (goes_on a b) (goes_on b c) refl refl

-- runs with another behind them are some
some_last : (run : Run) (runs : List Run) (last : Run)
    → (first : Run) × (rest : List Run) × (with_last (run ∷ runs) last ≡ first ∷ rest)
some_last run [] last =
    elim (goes_on run last) as (λ b. (first : Run) × (rest : List Run) × (cond b (joined run last ∷ []) (run ∷ last ∷ []) ≡ first ∷ rest)) [
      | true ↦ (joined run last, [], refl)
      | false ↦ (run, last ∷ [], refl)
    ]
some_last run (next ∷ runs) last = (run, with_last (next ∷ runs) last, refl)

-- a run stays the first in front of some
stays_first : (run : Run) (runs rest : List Run) (first : Run) (others : List Run) → runs ≡ first ∷ others
    → all_joined (run ∷ runs) rest ≡ run ∷ all_joined runs rest
stays_first run runs rest first others e = rw e refl

-- one more at the end, in front of the rest
pub last_joined : (runs : List Run) (last : Run) (rest : List Run)
    → all_joined (with_last runs last) rest ≡ all_joined runs (in_front last rest)
last_joined [] last rest = refl
last_joined (run ∷ []) last rest = pair_in_front run last rest
last_joined (run ∷ next ∷ runs) last rest =
    let some = some_last next runs last in
    stays_first run (with_last (next ∷ runs) last) rest some.0 some.1 some.2
    ∙ ap (λ x. run ∷ x) (last_joined (next ∷ runs) last rest)

-- none are left at the end
pub none_left : (runs : List Run) → all_joined runs [] ≡ runs
none_left [] = refl
none_left (run ∷ []) = refl
none_left (run ∷ next ∷ runs) = ap (λ x. run ∷ x) (none_left (next ∷ runs))

-- those of the rest, at a character
pub runs_at : (unit : Unit) (at : ℕ) (row : List ℕ) (place width : ℕ) → place < length row
    → width ≡ width_of unit at (get_or row place 0)
    → runs_from unit at (drop place row)
    ≡ cond (is_mark (get_or row place 0))
    (in_front (run_of (get_or row place 0) at) (runs_from unit (at + width) (drop (place + 1) row)))
    (runs_from unit (at + width) (drop (place + 1) row))
unfolding runs_from
runs_at unit at row place width lt wide =
    at_drop_more (runs_from unit at) row place 0 lt
    ∙ ap (λ n. cond (is_mark (get_or row place 0)) (in_front (run_of (get_or row place 0) at) (runs_from unit (at + n) (drop (place + 1) row))) (runs_from unit (at + n) (drop (place + 1) row))) (sym wide)

module _ (unit : Unit) (at : ℕ) (row : List ℕ) (place width : ℕ) (lt : place < length row)
    (wide : width ≡ width_of unit at (get_or row place 0)) (runs : List Run) (all : List Run)
    (so_far : all_joined runs (runs_from unit at (drop place row)) ≡ all) where
  -- a mark is pushed
  pub mark_pushed : (pushed : List Run) → is_mark (get_or row place 0) ≡ true
      → pushed ≡ with_last runs (run_of (get_or row place 0) at)
      → all_joined pushed (runs_from unit (at + width) (drop (place + 1) row)) ≡ all
  mark_pushed pushed mark push =
      let rest = runs_from unit (at + width) (drop (place + 1) row) in
      let run = run_of (get_or row place 0) at in
      rw push (last_joined runs run rest
      ∙ ap (λ x. all_joined runs x)
      (sym (runs_at unit at row place width lt wide ∙ ap (λ b. cond b (in_front run rest) rest) mark))
      ∙ so_far)

  -- and nothing else is
  pub no_mark : is_mark (get_or row place 0) ≡ false
      → all_joined runs (runs_from unit (at + width) (drop (place + 1) row)) ≡ all
  no_mark other =
      let rest = runs_from unit (at + width) (drop (place + 1) row) in
      let run = run_of (get_or row place 0) at in
      ap (λ x. all_joined runs x)
      (sym (runs_at unit at row place width lt wide ∙ ap (λ b. cond b (in_front run rest) rest) other))
      ∙ so_far

-- there are none at the end
pub runs_end : (unit : Unit) (at : ℕ) (row : List ℕ) (place : ℕ) → length row ≤ place
    → runs_from unit at (drop place row) ≡ []
unfolding runs_from
runs_end unit at row place end = at_drop_all (runs_from unit at) row place end

-- the last one is joined with what comes behind it
joined_last : (runs : List Run) (run last : Run)
    → with_last (runs ++ run ∷ []) last ≡ runs ++ in_front run (last ∷ [])
joined_last [] run last = refl
joined_last (first ∷ []) run last = refl
joined_last (first ∷ next ∷ runs) run last = ap (λ x. first ∷ x) (joined_last (next ∷ runs) run last)

module _ (runs front : List Run) (run last : Run) (old : runs ≡ front ++ run ∷ []) where
  -- what is pushed where it goes on
  pub pushed_on : (pushed : List Run) (both : Run) → true ≡ goes_on run last → both ≡ joined run last
      → pushed ≡ front ++ both ∷ [] → pushed ≡ with_last runs last
  pushed_on pushed both on is push =
      push ∙ ap (λ x. front ++ x ∷ []) is
      ∙ ap (λ b. front ++ cond b (joined run last ∷ []) (run ∷ last ∷ [])) on
      ∙ sym (ap (λ x. with_last x last) old ∙ joined_last front run last)

  -- and where it doesn't
  pub pushed_off : (pushed one : List Run) → false ≡ goes_on run last → one ≡ front ++ run ∷ []
      → pushed ≡ one ++ last ∷ [] → pushed ≡ with_last runs last
  pushed_off pushed one off first push =
      push ∙ ap (λ x. x ++ last ∷ []) first ∙ append_assoc front (run ∷ []) (last ∷ [])
      ∙ ap (λ b. front ++ cond b (joined run last ∷ []) (run ∷ last ∷ [])) off
      ∙ sym (ap (λ x. with_last x last) old ∙ joined_last front run last)

-- ---- columns

-- a character takes 8 columns at most
tab_bound : (b : Bool) (at : ℕ) → cond b (8 - at % 8) 1 ≤ 8
tab_bound true at = omega arith
tab_bound false at = omega arith

width_bound : (unit : Unit) (at c : ℕ) → width_of unit at c ≤ 8
unfolding width_of
width_bound Byte at c = omega arith
width_bound Char at c = omega arith
width_bound Utf16 at c = omega arith
width_bound Display at c = tab_bound (eqb c 9) at

-- a column of a run, or one of the run behind it, is one of both
caret_of_both : (a b : Option ℕ) (start middle end : ℕ) → start < middle → middle < end
    → IfSome a (λ caret. (start ≤ caret) × (caret < middle))
    → IfSome b (λ caret. (middle ≤ caret) × (caret < end))
    → IfSome (option_or a b) (λ caret. (start ≤ caret) × (caret < end))
caret_of_both None None start middle end lt more of_a of_b = tt
caret_of_both None (Some x) start middle end lt more of_a of_b = (omega arith, of_b.1)
caret_of_both (Some x) b start middle end lt more of_a of_b = (of_a.0, omega arith)

-- the runs of a row that goes on in a column are near, where the machine has its columns
near_by : (b : Bool) (run next : Run) (runs : List Run) → goes_on run next ≡ b → IsNear run
    → AllByRecursion IsNear (next ∷ runs)
    → AllByRecursion IsNear (cond b (joined run next ∷ runs) (run ∷ next ∷ runs))
near_by true run next runs on near all =
    let meets = eqb-true run.end next.start (and_parts (eqb run.end next.start) (beq run.is_dashed next.is_dashed) on).0 in (
      record {
        has_column = (let one = near.has_column in let two = all.0.has_column in omega arith);
        caret = caret_of_both run.caret next.caret run.start run.end next.end near.has_column (rw meets all.0.has_column) near.caret (rw meets all.0.caret);
        fits = all.0.fits;
      },
      all.1,
    )
near_by false run next runs off near all = (near, all)

near_front : (run : Run) (runs : List Run) → IsNear run → AllByRecursion IsNear runs
    → AllByRecursion IsNear (in_front run runs)
near_front run [] near all = (near, tt)
near_front run (next ∷ runs) near all = near_by (goes_on run next) run next runs refl near all

-- a mark is its own `^`, if it is one
caret_of_mark : (b : Bool) (at : ℕ) → IfSome (cond b (Some at) None) (λ caret. (at ≤ caret) × (caret < at + 1))
caret_of_mark true at = (omega arith, omega arith)
caret_of_mark false at = tt

near_at : (b : Bool) (c at width rest : ℕ) (runs : List Run) → at + 8 * (rest + 1) < 2 ^ 63
    → AllByRecursion IsNear runs → AllByRecursion IsNear (cond b (in_front (run_of c at) runs) runs)
near_at true c at width rest runs fits all =
    near_front (run_of c at) runs (record { has_column = omega arith; caret = caret_of_mark (eqb c 94) at; fits = omega arith }) all
near_at false c at width rest runs fits all = all

near_from : (unit : Unit) (at : ℕ) (row : List ℕ) → at + 8 * length row < 2 ^ 63
    → AllByRecursion IsNear (runs_from unit at row)
unfolding runs_from
near_from unit at [] fits = tt
near_from unit at (c ∷ row) fits =
    let wide = width_bound unit at c in
    near_at (is_mark c) c at (width_of unit at c) (length row) (runs_from unit (at + width_of unit at c) row) (omega arith)
    (near_from unit (at + width_of unit at c) row (omega arith))

-- each of them is
each_near : (runs : List Run) → AllByRecursion IsNear runs → All IsNear runs
each_near [] all = All-nil IsNear
each_near (run ∷ runs) all = All-cons IsNear run runs all.0 (each_near runs all.1)

pub near_runs : (unit : Unit) (at : ℕ) (row : List ℕ) → at + 8 * length row < 2 ^ 63
    → All IsNear (runs_from unit at row)
near_runs unit at row fits = each_near (runs_from unit at row) (near_from unit at row fits)
