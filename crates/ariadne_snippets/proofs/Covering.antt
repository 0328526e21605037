-- What marks cover.
use Rattle.std.proofs.Common.{◌≡◌, ◌∙◌, ap, sym, refl, ℕ, suc, zero, ◌+◌, ◌-◌, ◌<◌, ◌≤◌, Bool, true, false, cond, List, [], ◌∷◌, drop, length, get_or, map, subst, arith, length-drop}
use Rattle.std.proofs.Math.Dec.{leb}
use Rattle.std.proofs.Math.ListN.{set}
use Rattle.std.specs.List.{prefix_len, AllZip}
use Rattle.std.proofs.lemmas.Bool.{le-leb, leb-true}
use Rattle.std.proofs.lemmas.List.Sums.{prefix_len-le-length}
use Rattle.ariadne_parse.specs.Columns.{columns_of}
use Rattle.ariadne_parse.specs.declared.unit.Unit.{Unit}
use Rattle.ariadne_snippets.specs.Marks.{char_in, place_in, IsNear}
use Rattle.ariadne_snippets.specs.Snippets.{char_at, covered, extent_of, line_length, point_at, point_behind, in_line, in_line_above, in_front, itself, Covers, IsBefore, IsMarkOf, IsUpTo}
use Rattle.ariadne_snippets.specs.declared.quoted.Quoted.{Quoted}
use Rattle.ariadne_snippets.specs.declared.run.Run.{Run}
use Rattle.ariadne_snippets.specs.declared.taken.Mark.{Mark}
use Rattle.ariadne_snippets.specs.declared.taken.Point.{Point}

-- ---- characters go on with columns

prefix_by : (p q : Bool) (m n : ℕ) → (p ≡ true → q ≡ true) → m ≤ n → cond p (1 + m) 0 ≤ cond q (1 + n) 0
prefix_by false q m n h le = omega arith
prefix_by true true m n h le = omega arith
prefix_by true false m n h le = absurd (cc (h refl))

up_to : (e x y : ℕ) → x ≤ y → leb e x ≡ true → leb e y ≡ true
up_to e x y le t = le-leb e y (omega (arith, leb-true e x t))

prefix_more : (x y : ℕ) → x ≤ y → (ends : List ℕ) → prefix_len (λ e. leb e x) ends ≤ prefix_len (λ e. leb e y) ends
prefix_more x y le [] = omega arith
prefix_more x y le (e ∷ ends) =
    prefix_by (leb e x) (leb e y) (prefix_len (λ e. leb e x) ends) (prefix_len (λ e. leb e y) ends) (up_to e x y le) (prefix_more x y le ends)

place_by : (p q : Bool) (m n : ℕ) → (p ≡ true → q ≡ true) → m ≤ n → cond p (suc m) 0 ≤ cond q (suc n) 0
place_by false q m n h le = omega arith
place_by true true m n h le = omega arith
place_by true false m n h le = absurd (cc (h refl))

place_more : (unit : Unit) (a b : ℕ) → a ≤ b → (at : ℕ) (quote : List ℕ) → place_in unit a at quote ≤ place_in unit b at quote
unfolding place_in
place_more unit a b le at [] = omega arith
place_more unit a b le at (c ∷ quote) =
    let behind = at + columns_of unit at c in
    place_by (leb behind a) (leb behind b) (place_in unit a behind quote) (place_in unit b behind quote) (up_to behind a b le)
    (place_more unit a b le behind quote)

char_more : (begins : List ℕ) (x y : ℕ) → x ≤ y → char_in begins x ≤ char_in begins y
unfolding char_in
char_more begins x y le = prefix_more x y le (drop 1 begins)

char_bound : (begins : List ℕ) (place : ℕ) → char_in begins place ≤ length begins - 1
unfolding char_in
char_bound begins place = omega (arith, prefix_len-le-length (λ e. leb e place) (drop 1 begins), length-drop 1 begins)

-- ---- marks of runs

-- what covers what a run does covers a character
pub covers_run : (quoted : Quoted) (run : Run) (mark : Mark) → IsNear run → mark.start ≡ point_at quoted run.start
    → mark.end ≡ point_behind quoted run.end → Covers quoted mark
covers_run quoted run mark near start end =
    let more : char_at quoted run.start ≤ char_at quoted (run.end - 1) =
    char_more quoted.quote.begins.items _ _
    (place_more quoted.unit run.start (run.end - 1) (let lt = near.has_column in omega arith) 0 quoted.quote.chars.items) in
    let first : mark.start.offset ≡ char_at quoted run.start = ap (λ p. p.offset) start in
    let last : mark.end.offset ≡ char_at quoted (run.end - 1) + 1 = ap (λ p. p.offset) end in
    let bound : char_at quoted (run.end - 1) ≤ line_length quoted = char_bound quoted.quote.begins.items _ in record {
      some = in_line (ap (λ p. p.line) start ∙ sym (ap (λ p. p.line) end)) (omega (arith, first, last, more));
      line = ap (λ p. p.line) end;
      bound = omega (arith, last, bound);
    }

-- marks that cover what runs do are those of the runs
pub marks_by_extents : (quoted : Quoted) (runs : List Run) (marks : List Mark)
    → map extent_of marks ≡ map (covered quoted) runs → AllZip (IsMarkOf quoted) runs marks
marks_by_extents quoted [] [] e = tt
marks_by_extents quoted [] (mark ∷ marks) e = absurd (cc e)
marks_by_extents quoted (run ∷ runs) [] e = absurd (cc e)
marks_by_extents quoted (run ∷ runs) (mark ∷ marks) e =
    let one : extent_of mark ≡ covered quoted run = cc e in
    let more : map extent_of marks ≡ map (covered quoted) runs = cc e in (
      record {
        start = itself (ap (λ e. e.start) one);
        end = ap (λ e. e.end) one;
        caret = ap (λ e. e.caret) one;
      },
      marks_by_extents quoted runs marks more,
    )

-- ---- marks that begin further in front

before_line : (p a b : Point) → IsBefore p a → a ≡ b → IsBefore p b
before_line p a b h e = let P : Point → Type 0 = λ x. IsBefore p x in subst P e h

before_more : (p a b : Point) → IsBefore p a → IsBefore a b → IsBefore p b
before_more p a b (in_line e lt) (in_line f more) = in_line (e ∙ f) (omega arith)
before_more p a b (in_line e lt) (in_line_above more) = in_line_above (omega (arith, e))
before_more p a b (in_line_above lt) (in_line f more) = in_line_above (omega (arith, f))
before_more p a b (in_line_above lt) (in_line_above more) = in_line_above (omega arith)

before_up_to : (p a b : Point) → IsBefore p a → IsUpTo a b → IsUpTo p b
before_up_to p a b h (itself e) = in_front (before_line p a b h e)
before_up_to p a b h (in_front more) = in_front (before_more p a b h more)

pub mark_of_begun : (quoted : Quoted) (run : Run) (mark begun : Mark) → IsBefore begun.start mark.start
    → begun.end ≡ mark.end → begun.caret ≡ mark.caret → IsMarkOf quoted run mark → IsMarkOf quoted run begun
mark_of_begun quoted run mark begun before end caret is = record {
  start = before_up_to begun.start mark.start (point_at quoted run.start) before is.start;
  end = end ∙ is.end;
  caret = caret ∙ is.caret;
}

pub begun_covers : (quoted : Quoted) (mark begun : Mark) → IsBefore begun.start mark.start → begun.end ≡ mark.end
    → Covers quoted mark → Covers quoted begun
begun_covers quoted mark begun before end is = record {
  some = before_line begun.start mark.end begun.end (before_more begun.start mark.start mark.end before is.some) (sym end);
  line = ap (λ p. p.line) end ∙ is.line;
  bound = (let o : begun.end.offset ≡ mark.end.offset = ap (λ p. p.offset) end in let b = is.bound in omega (arith, o));
}

-- one of them is another mark of its run
pub zip_set : (quoted : Quoted) (runs : List Run) (marks : List Mark) (place : ℕ) (new d : Mark)
    → ((run : Run) → IsMarkOf quoted run (get_or marks place d) → IsMarkOf quoted run new)
    → AllZip (IsMarkOf quoted) runs marks → AllZip (IsMarkOf quoted) runs (set marks place new)
zip_set quoted [] [] place new d h all = tt
zip_set quoted [] (mark ∷ marks) place new d h all = absurd all
zip_set quoted (run ∷ runs) [] place new d h all = all
zip_set quoted (run ∷ runs) (mark ∷ marks) zero new d h all = (h run all.0, all.1)
zip_set quoted (run ∷ runs) (mark ∷ marks) (suc place) new d h all =
    (all.0, zip_set quoted runs marks place new d h all.1)

-- an element is the same whatever stands for none
get_or_any : (marks : List Mark) (place : ℕ) (a b : Mark) → place < length marks → get_or marks place a ≡ get_or marks place b
get_or_any [] place a b lt = absurd (omega arith)
get_or_any (mark ∷ marks) zero a b lt = refl
get_or_any (mark ∷ marks) (suc place) a b lt = get_or_any marks place a b (omega arith)

-- one of them begins further in front
pub zip_begun : (quoted : Quoted) (runs : List Run) (marks : List Mark) (place : ℕ) (new seen had : Mark)
    → place < length marks → seen ≡ get_or marks place seen → had ≡ get_or marks place had
    → IsBefore new.start seen.start → new.end ≡ had.end → new.caret ≡ had.caret
    → AllZip (IsMarkOf quoted) runs marks → AllZip (IsMarkOf quoted) runs (set marks place new)
zip_begun quoted runs marks place new seen had lt e f before end caret all =
    let same : seen ≡ get_or marks place had = e ∙ get_or_any marks place seen had lt in
    let start : IsBefore new.start (get_or marks place had).start =
    before_line new.start seen.start (get_or marks place had).start before (ap (λ (m : Mark). m.start) same) in
    zip_set quoted runs marks place new had
    (λ run is. mark_of_begun quoted run (get_or marks place had) new start (end ∙ ap (λ (m : Mark). m.end) f)
    (caret ∙ ap (λ (m : Mark). m.caret) f) is)
    all

-- or says more
mark_of_same : (quoted : Quoted) (run : Run) (mark new : Mark) → new.start ≡ mark.start → new.end ≡ mark.end
    → new.caret ≡ mark.caret → IsMarkOf quoted run mark → IsMarkOf quoted run new
mark_of_same quoted run mark new start end caret is = record {
  start = (let P : Point → Type 0 = λ p. IsUpTo p (point_at quoted run.start) in subst P (sym start) is.start);
  end = end ∙ is.end;
  caret = caret ∙ is.caret;
}

pub zip_same : (quoted : Quoted) (runs : List Run) (marks : List Mark) (place : ℕ) (new had : Mark)
    → had ≡ get_or marks place had → new.start ≡ had.start → new.end ≡ had.end → new.caret ≡ had.caret
    → AllZip (IsMarkOf quoted) runs marks → AllZip (IsMarkOf quoted) runs (set marks place new)
zip_same quoted runs marks place new had f start end caret all =
    zip_set quoted runs marks place new had
    (λ run is. mark_of_same quoted run (get_or marks place had) new (start ∙ ap (λ (m : Mark). m.start) f)
    (end ∙ ap (λ (m : Mark). m.end) f) (caret ∙ ap (λ (m : Mark). m.caret) f) is)
    all
