-- The first entry that counts: that at a number, or one behind it.
use Rattle.std.proofs.Common.{◌≡◌, ℕ, ◌+◌, ◌<◌, ◌≤◌, Bool, true, false, List, ◌∷◌, cond, drop, length, map, get_or, refl, sym, ap, ◌∙◌}
use Rattle.std.proofs.lemmas.List.{at_drop_more, at_drop_all}
use Rattle.std.specs.List.{enumerate_from, find}
use Rattle.std.specs.Prelude.{Option, Some, None}
use Rattle.ariadne_matchers.specs.Catches.{caught_at}
use Rattle.ariadne_matchers.specs.Readers.{counted, first_fit, fitting_told, may_count, taken_by_entry}
use Rattle.ariadne_matchers.specs.MatchedRows.{fit_entry, open_yet, takes, Pattern, Taking}
use Rattle.ariadne_matchers.specs.declared.reader.Fitting.{Fitting}
use Rattle.ariadne_matchers.specs.declared.reader.Fitting.TheVariants as fits

pub first_at : (entries : List (List Pattern)) (is_all : Bool) (lines : List (List ℕ)) (number : ℕ) (rows : List Pattern)
    → number < length entries → rows ≡ get_or entries number rows
    → first_fit number entries is_all lines
    ≡ cond (may_count (fit_entry rows is_all lines)) (Some (number, fit_entry rows is_all lines)) (first_fit (number + 1) entries is_all lines)
unfolding first_fit
first_at entries is_all lines number rows within read =
    at_drop_more (λ rest. find (λ taken. may_count taken.1) (map (taken_by_entry is_all lines) (enumerate_from number rest))) entries number rows within
    ∙ ap (λ (x : List Pattern). find (λ taken. may_count taken.1) (map (taken_by_entry is_all lines) (enumerate_from number (x ∷ drop (number + 1) entries))))
    (sym read)

pub first_none : (entries : List (List Pattern)) (is_all : Bool) (lines : List (List ℕ)) (number : ℕ) → length entries ≤ number
    → first_fit number entries is_all lines ≡ None
unfolding first_fit
first_none entries is_all lines number end =
    at_drop_all (λ rest. find (λ taken. may_count taken.1) (map (taken_by_entry is_all lines) (enumerate_from number rest))) entries number end

chosen : {A : Type 0} (b : Bool) (one : A) (later : Option A) (x : A) → cond b (Some one) None ≡ Some x → Some x ≡ cond b (Some one) later
chosen true one later x is = sym is
chosen false one later x is = cc

passed : {A : Type 0} (b : Bool) (one : A) (later : Option A) → cond b (Some one) None ≡ None → cond b (Some one) later ≡ later
passed true one later is = cc
passed false one later is = refl

module _ (entries : List (List Pattern)) (is_all : Bool) (lines : List (List ℕ)) (number : ℕ) (rows : List Pattern)
    (within : number < length entries) (read : rows ≡ get_or entries number rows) (taking : Taking)
    (is : taking ≡ fit_entry rows is_all lines) where
  taken_at : first_fit number entries is_all lines
      ≡ cond (may_count taking) (Some (number, taking)) (first_fit (number + 1) entries is_all lines)
  taken_at =
      first_at entries is_all lines number rows within read
      ∙ ap (λ (it : Taking). cond (may_count it) (Some (number, it)) (first_fit (number + 1) entries is_all lines)) (sym is)

  -- this one counts
  found : (x : ℕ × Taking) → counted number taking ≡ Some x → Some x ≡ first_fit number entries is_all lines
  found x counts = chosen (may_count taking) (number, taking) (first_fit (number + 1) entries is_all lines) x counts ∙ sym taken_at

  pub first_here : (fitting : Fitting) → (fitting ≡ fits.Nothing → ⊥) → fitting_told fitting ≡ counted number taking
      → fitting_told fitting ≡ first_fit number entries is_all lines
  first_here fits.Nothing some told = absurd (some refl)
  first_here (fits.Open at) some told = found (at, open_yet) (sym told)
  first_here (fits.Fits fit) some told = found (fit.entry, takes (map caught_at fit.lines.items)) (sym told)

  -- or one behind it
  pub first_later : None ≡ counted number taking → first_fit number entries is_all lines ≡ first_fit (number + 1) entries is_all lines
  first_later none = taken_at ∙ passed (may_count taking) (number, taking) (first_fit (number + 1) entries is_all lines) (sym none)
