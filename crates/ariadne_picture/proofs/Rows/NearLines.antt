-- A line is hidden where no line near it has labels: so it has none itself.
use Rattle.std.proofs.Common.{◌≡◌, ℕ, zero, suc, ◌+◌, ◌-◌, ◌<◌, ◌≤◌, Bool, true, false, refl, sym, ap, ◌∙◌, arith}
use Rattle.std.specs.List.{range_with_len, list_all}
use Rattle.std.proofs.lemmas.Bool.{and_from, and_parts, true≢false, false_from_ne_true}
use Rattle.ariadne_picture.specs.Ranks.{Sheet, is_hidden_line, is_unlabelled, lines_near}

-- a number of a range passes where all do
range-pass : (test : ℕ → Bool) (a n j : ℕ) → j < n → list_all test (range_with_len a n) ≡ true → test (a + j) ≡ true
range-pass test a zero j less h = absurd (omega arith)
range-pass test a (suc n) zero less h = let z : a + 0 ≡ a = omega arith in ap test z ∙ (and_parts (test a) _ h).0
range-pass test a (suc n) (suc j) less h =
    let z : a + suc j ≡ a + 1 + j = omega arith in
    ap test z ∙ range-pass test (a + 1) n j (omega (arith, less)) (and_parts (test a) (list_all test (range_with_len (a + 1) n)) h).1

-- and all do where each does
pass-range : (test : ℕ → Bool) (a n : ℕ) → ((j : ℕ) → a ≤ j → j < a + n → test j ≡ true) → list_all test (range_with_len a n) ≡ true
pass-range test a zero h = refl
pass-range test a (suc n) h =
    and_from (test a) (list_all test (range_with_len (a + 1) n)) (h a (omega arith) (omega arith))
    (pass-range test (a + 1) n (λ j low less. h j (omega (arith, low)) (omega (arith, less))))

-- no line near a hidden one has labels
pub hidden-near : (s : Sheet) (l m : ℕ) → is_hidden_line s l ≡ true → l ≤ m + s.switches.context_lines → m ≤ l + s.switches.context_lines
    → is_unlabelled s.labels m ≡ true
unfolding is_hidden_line lines_near
hidden-near s l m h low high =
    let n = s.switches.context_lines in
    let here : m ≡ l - n + (m - (l - n)) = omega (arith, low) in
    ap (is_unlabelled s.labels) here
    ∙ range-pass (is_unlabelled s.labels) (l - n) (l + n + 1 - (l - n)) (m - (l - n)) (omega (arith, low, high)) h

-- and a line is hidden where none has
pub hidden-far : (s : Sheet) (l : ℕ)
    → ((m : ℕ) → l ≤ m + s.switches.context_lines → m ≤ l + s.switches.context_lines → is_unlabelled s.labels m ≡ true) → is_hidden_line s l ≡ true
unfolding is_hidden_line lines_near
hidden-far s l h =
    let n = s.switches.context_lines in
    pass-range (is_unlabelled s.labels) (l - n) (l + n + 1 - (l - n)) (λ j low less. h j (omega (arith, low)) (omega (arith, less)))

-- a line near one with labels is shown
pub shown-near : (s : Sheet) (l m : ℕ) → is_unlabelled s.labels m ≡ false → l ≤ m + s.switches.context_lines → m ≤ l + s.switches.context_lines
    → is_hidden_line s l ≡ false
shown-near s l m some low high = false_from_ne_true (is_hidden_line s l) (λ h. true≢false (sym (hidden-near s l m h low high) ∙ some))

-- a hidden line has no labels
pub hidden-bare : (s : Sheet) (l : ℕ) → is_hidden_line s l ≡ true → is_unlabelled s.labels l ≡ true
hidden-bare s l h = hidden-near s l l h (omega arith) (omega arith)

-- so one with labels is not hidden
pub shown-with : (s : Sheet) (l : ℕ) → is_unlabelled s.labels l ≡ false → is_hidden_line s l ≡ false
shown-with s l some = shown-near s l l some (omega arith) (omega arith)
