-- The calls of macros around a span.
use Rattle.std.proofs.Common.{◌≡◌, ◌∙◌, ap, refl, Bor}
use Rattle.std.specs.Prelude.{ℕ, zero, suc, true, false, if◌then◌else◌, List, [], ◌∷◌}
use Rattle.std.specs.Prelude.{Option, Some, None, option_map, unwrap_or}
use Rattle.std.specs.Option.{option_or}
use Rattle.serde_json.specs.Data.{Data}
use Rattle.serde_json.specs.View.{view}
use Rattle.serde_json.specs.declared.value.Value.{Value}
use Rattle.ariadne_parse.specs.Rustc.{call_of, calls_of, first_own, is_own, macro_call_of, outermost, outermost_within, own_within}

-- there is none where none made the span
no_calls : (n : ℕ) (d : Data) → call_of d ≡ None → calls_of n d ≡ []
unfolding calls_of
no_calls zero d none = refl
no_calls (suc n) d none = ap (λ (o : Option Data). unwrap_or (option_map (λ call. call ∷ calls_of n call) o) []) none

-- the one that made it is the first
one_call : (n : ℕ) (d call : Data) → call_of d ≡ Some call → calls_of (suc n) d ≡ call ∷ calls_of n call
unfolding calls_of
one_call n d call is = ap (λ (o : Option Data). unwrap_or (option_map (λ call. call ∷ calls_of n call) o) []) is

-- ---- the first that lies in a file of the user's

own_first : (d : Data) (calls : List Data) → is_own d ≡ true → first_own d calls ≡ d
own_first d [] own = refl
own_first d (call ∷ calls) own = ap (λ b. if b then d else first_own call calls) own

-- it is the span, where that does
pub own_here : (n : ℕ) (d : Data) → is_own d ≡ true → own_within n d ≡ d
unfolding own_within
own_here n d own = own_first d (calls_of n d) own

-- or where no call made it, or none is followed
pub own_last : (n : ℕ) (d : Data) → call_of d ≡ None → own_within n d ≡ d
unfolding own_within
own_last n d none = ap (first_own d) (no_calls n d none)

pub own_end : (n : ℕ) (d : Data) → n ≡ 0 → own_within n d ≡ d
unfolding own_within calls_of
own_end n d none = ap (λ k. first_own d (calls_of k d)) none

-- or else that of the call
pub own_next : (n m : ℕ) (d call : Data) → n ≡ suc m → is_own d ≡ false → call_of d ≡ Some call → own_within n d ≡ own_within m call
unfolding own_within
own_next n m d call more other is =
    ap (λ k. first_own d (calls_of k d)) more
    ∙ ap (first_own d) (one_call m d call is)
    ∙ ap (λ b. if b then d else first_own call (calls_of m call)) other

-- ---- the outermost of a macro

pub outermost_last : (n : ℕ) (d : Data) → call_of d ≡ None → outermost_within n d ≡ None
unfolding outermost_within
outermost_last n d none = ap (outermost d) (no_calls n d none)

pub outermost_end : (n : ℕ) (d : Data) → n ≡ 0 → outermost_within n d ≡ None
unfolding outermost_within calls_of
outermost_end n d none = ap (λ k. outermost d (calls_of k d)) none

or_assoc : (a b c : Option Data) → option_or (option_or a b) c ≡ option_or a (option_or b c)
or_assoc None b c = refl
or_assoc (Some a) b c = refl

-- one of a further call comes before that so far
pub outermost_next : (n m : ℕ) (d call : Data) (so_far : Option Data) → n ≡ suc m → call_of d ≡ Some call
    → option_or (outermost_within n d) so_far ≡ option_or (outermost_within m call) (option_or (macro_call_of d) so_far)
unfolding outermost_within
outermost_next n m d call so_far more is =
    ap (λ k. option_or (outermost d (calls_of k d)) so_far) more
    ∙ ap (λ calls. option_or (outermost d calls) so_far) (one_call m d call is)
    ∙ or_assoc (outermost call (calls_of m call)) (macro_call_of d) so_far

-- what stands for it
pub or_view : (a b : Option (Bor Value))
    → option_map (λ (v : Bor Value). view v.now) (option_or a b)
    ≡ option_or (option_map (λ (v : Bor Value). view v.now) a) (option_map (λ (v : Bor Value). view v.now) b)
or_view None b = refl
or_view (Some a) b = refl
