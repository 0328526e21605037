-- What is handed over for one line more.
use Rattle.std.proofs.Common.{◌≡◌, ◌∙◌, ℕ, suc, ◌+◌, Bool, true, false, cond, List, [], ◌∷◌, ◌++◌, map, append_assoc, append-nil, length, ap, sym, refl, arith}
use Rattle.std.specs.Borrow.{Bor}
use Rattle.std.specs.List.{concat, range_with_len, slice_get}
use Rattle.std.specs.Option.{option_copied}
use Rattle.std.specs.Prelude.{Option, Some, None}
use Rattle.std.specs.Slice.{IsItemAt}
use Rattle.std.proofs.lemmas.List.Folds.{concat-append}
use Rattle.std.proofs.lemmas.List.FromFn.{map-range_with_len_more}
use Rattle.std.proofs.lemmas.Option.{slice_get_past, slice_get_read}
use Rattle.ariadne_matchers.specs.declared.reader.Fit.{Fit}
use Rattle.ariadne_matching.specs.HandedOver.{is_taken, last_taken_below}

-- the lines so far, and one more
handed_more : (f : ℕ → List ℕ) (place : ℕ) (bytes new more : List ℕ) → bytes ≡ concat (map f (range_with_len 0 place))
    → new ≡ bytes ++ more → more ≡ f place → new ≡ concat (map f (range_with_len 0 (place + 1)))
handed_more f place bytes new more so_far push is =
    let here : 0 + place ≡ place = omega arith in
    push ∙ ap (λ b. b ++ more) so_far ∙ ap (λ m. concat (map f (range_with_len 0 place)) ++ m) (is ∙ sym (append-nil (f place)))
    ∙ sym (concat-append (map f (range_with_len 0 place)) (f place ∷ []))
    ∙ ap concat (sym (map-range_with_len_more f 0 place place here))

-- the same of what is pushed for it: a report, and what passes
pub line_more : (f : ℕ → List ℕ) (place : ℕ) (bytes first new report passing : List ℕ) → bytes ≡ concat (map f (range_with_len 0 place))
    → first ≡ bytes ++ report → new ≡ first ++ passing → report ++ passing ≡ f place → new ≡ concat (map f (range_with_len 0 (place + 1)))
line_more f place bytes first new report passing so_far one two is =
    handed_more f place bytes new (report ++ passing) so_far
    (two ∙ ap (λ b. b ++ passing) one ∙ append_assoc bytes report passing) is

-- what is lent of the lines at a place
pub lent : {X : Type 0} (xs : List X) (i : ℕ) (r : Option (Bor X)) → IsItemAt xs i r → option_copied r ≡ slice_get xs i
lent xs i None h = sym (slice_get_past xs i h.3)
lent xs i (Some x) h = sym (slice_get_read xs (length xs) i x.now refl h.3.0 (h.3.1 x.now))

-- ---- the last line that is taken in

last_step : (fit : Fit) (place : ℕ) → last_taken_below fit (place + 1) ≡ cond (is_taken fit place) place (last_taken_below fit place)
unfolding last_taken_below
last_step fit place = let one_more : place + 1 ≡ suc place = omega arith in ap (last_taken_below fit) one_more

-- this one is
pub last_here : (fit : Fit) (place : ℕ) → is_taken fit place ≡ true → last_taken_below fit (place + 1) ≡ place
last_here fit place taken = last_step fit place ∙ ap (λ (b : Bool). cond b place (last_taken_below fit place)) taken

-- or this one passes
pub last_before : (fit : Fit) (place : ℕ) → is_taken fit place ≡ false → last_taken_below fit (place + 1) ≡ last_taken_below fit place
last_before fit place passes = last_step fit place ∙ ap (λ (b : Bool). cond b place (last_taken_below fit place)) passes
