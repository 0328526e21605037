-- The spans of captures are those of the match that they show.
use Rattle.std.proofs.Common.{◌≡◌, ◌∙◌, ℕ, zero, suc, false, List, ap, refl, sym, arith}
use mathlib.Core.Path.{fun_ext}
use Rattle.regex.specs.Patterns.{find_str, Match, Re}
use Rattle.regex.specs.Search.{group_span}
use Rattle.regex.specs.Strings.{captures_span, IsCapturesOf}
use Rattle.regex.specs.declared.string.captures.Captures.{Captures}
use Rattle.std.specs.Prelude.{Option, Some, None, is_some, option_map}
use Rattle.ariadne_matchers.specs.Catches.{catch_by, catch_of, span_of}
use Rattle.ariadne_matchers.specs.declared.entry.Groups.{Groups}

span_is : (line : List ℕ) (found : Match) (captures : Captures) → IsCapturesOf line found captures
    → (group : ℕ) → captures_span captures group ≡ span_of found group
unfolding group_span
span_is line found captures is zero = ap (λ s. Some s) is.1.whole_is
span_is line found captures is (suc group) = is.2 (suc group) (omega arith)

pub spans_are : (line : List ℕ) (found : Match) (captures : Captures) → IsCapturesOf line found captures
    → captures_span captures ≡ span_of found
spans_are line found captures is = fun_ext (span_is line found captures is)

-- so they are what the pattern catches
pub catch_is : (pattern : Re) (groups : Groups) (line : List ℕ) (captures : Captures) (found : Match) → find_str pattern line 0 ≡ Some found
    → IsCapturesOf line found captures → Some (catch_of (captures_span captures) groups line) ≡ catch_by pattern groups line
unfolding catch_by
catch_is pattern groups line captures found is shows =
    ap (λ (spans : ℕ → Option (ℕ × ℕ)). Some (catch_of spans groups line)) (spans_are line found captures shows)
    ∙ sym (ap (λ (o : Option Match). option_map (λ it. catch_of (span_of it) groups line) o) is)

-- and nothing where it has no match
pub catch_none : (pattern : Re) (groups : Groups) (line : List ℕ) → find_str pattern line 0 ≡ None → None ≡ catch_by pattern groups line
unfolding catch_by
catch_none pattern groups line is = sym (ap (λ (o : Option Match). option_map (λ it. catch_of (span_of it) groups line) o) is)

-- as where it is tested that it has none
none_of : {A : Type 0} (o : Option A) → is_some o ≡ false → o ≡ None
none_of None h = refl
none_of (Some x) h = cc

pub catch_unfit : (pattern : Re) (groups : Groups) (line : List ℕ) → is_some (find_str pattern line 0) ≡ false → None ≡ catch_by pattern groups line
catch_unfit pattern groups line unfit = catch_none pattern groups line (none_of (find_str pattern line 0) unfit)
