-- What stands in front of all diagnostics, and behind them.
use Rattle.std.proofs.Common.{◌≡◌, ℕ, List, Option, subst, sym, refl}
use Rattle.std.specs.Prelude.{true, false, Bool, Result, Ok, Err, OnOk}
use Rattle.std.specs.Io.KnownBytes.{Appends}
use Rattle.ariadne_outputs.specs.declared.sarif.TheConstants.{SARIF_TAIL}
use Rattle.ariadne_show.specs.Limits.{more_text}
use Rattle.ariadne_show.specs.RunOutput.{document_head, in_document, in_lines, IsEnded, IsStarted, IsStartedIn}
use Rattle.ariadne_show.specs.Sums.{line_end, sum_text}
use Rattle.ariadne_show.specs.Writing.{is_document, is_open, Out}
use Rattle.ariadne_show.specs.declared.options.Output.{Output}

-- ---- in front

pub not_started : (output : Output) (o : Option (List ℕ)) → is_document output ≡ false → IsStarted output o o
not_started output o text = subst (λ (b : Bool). IsStartedIn b o o) (sym text) refl

pub started_if : {T E : Type 0} (r : Result T E) (output : Output) (o p : Option (List ℕ)) (bytes : List ℕ)
    → is_document output ≡ true → bytes ≡ document_head → OnOk r (Appends o p bytes) → OnOk r (IsStarted output o p)
started_if (Ok x) output o p bytes document same got =
    subst (λ (b : Bool). IsStartedIn b o p) (sym document) (subst (λ (l : List ℕ). Appends o p l) same got)
started_if (Err e) output o p bytes document same got = tt

-- ---- behind

pub ended_in_document_if : {T E : Type 0} (r : Result T E) (output : Output) (first : Out) (after more beside : Option (List ℕ))
    (tail rest sum : List ℕ) → is_document output ≡ true → tail ≡ SARIF_TAIL.now → rest ≡ more_text first.shown.drawn
    → sum ≡ sum_text first.shown.sum → Appends first.output after tail → Appends first.beside more rest
    → OnOk r (Appends more beside sum) → OnOk r (IsEnded output first (record { output = after; beside = beside }))
ended_in_document_if (Ok x) output first after more beside tail rest sum document is_tail is_rest is_sum a b c =
    in_document more document (subst (λ (l : List ℕ). Appends first.output after l) is_tail a)
    (subst (λ (l : List ℕ). Appends first.beside more l) is_rest b)
    (subst (λ (l : List ℕ). Appends more beside l) is_sum c)
ended_in_document_if (Err e) output first after more beside tail rest sum document is_tail is_rest is_sum a b c = tt

pub ended_in_lines_if : {T E : Type 0} (r : Result T E) (output : Output) (first : Out) (closed more after : Option (List ℕ))
    (ending rest sum : List ℕ) → is_document output ≡ false
    → ending ≡ line_end (is_open first.shown.written) (sum_text first.shown.sum) → rest ≡ more_text first.shown.drawn
    → sum ≡ sum_text first.shown.sum → Appends first.output closed ending → Appends closed more rest
    → OnOk r (Appends more after sum)
    → OnOk r (IsEnded output first (record { output = after; beside = first.beside }))
ended_in_lines_if (Ok x) output first closed more after ending rest sum text is_ending is_rest is_sum a b c =
    in_lines closed more text (subst (λ (l : List ℕ). Appends first.output closed l) is_ending a)
    (subst (λ (l : List ℕ). Appends closed more l) is_rest b)
    (subst (λ (l : List ℕ). Appends more after l) is_sum c) refl
ended_in_lines_if (Err e) output first closed more after ending rest sum text is_ending is_rest is_sum a b c = tt
