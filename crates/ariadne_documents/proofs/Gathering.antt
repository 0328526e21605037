-- A document with a line more.
use Rattle.std.proofs.Common.{◌≡◌, ◌∙◌, ap, sym, refl, ℕ, ◌+◌, ◌≤◌, cond, List, ◌++◌, length, length-append, arith, leb-true}
use Rattle.std.proofs.lemmas.Bool.{and_parts}
use Rattle.std.specs.Prelude.{Bool, true, nat_le, nat_lt, ◌&&◌}
use Rattle.std.specs.List.{count_by, list_all}
use Rattle.ariadne_json.specs.Mended.{closes, opens}
use Rattle.ariadne_documents.specs.Brackets.{closed, is_in_nothing, is_line, is_open, may_stand, opened, outside, scanned, unscanned, within_all}
use Rattle.ariadne_documents.specs.Documents.{fits, most_bytes, step_of, IsGathered}
use Rattle.ariadne_documents.specs.declared.document.Step.{Step}
use Rattle.ariadne_documents.specs.declared.document.Step.TheVariants.{Broken, Ended, GoesOn}
use Rattle.ariadne_documents.specs.declared.scan.Scan.{Scan}
use Rattle.ariadne_documents.specs.declared.scan.Within.{Within}
use Rattle.ariadne_documents.specs.declared.scan.Within.TheVariants.{Nothing, Text, Escape}
use Rattle.ariadne_documents.proofs.Scans.{count_bound, counted, passed, within_append}

-- what fits is a line, and short enough
pub fits_line : (text line : List ℕ) → fits text line ≡ true → is_line line ≡ true
fits_line text line is = (and_parts (nat_le (length text + length line) most_bytes) (is_line line) is).1

pub fits_bound : (text line : List ℕ) → fits text line ≡ true → length text + length line ≤ most_bytes
fits_bound text line is =
    leb-true _ _ (and_parts (nat_le (length text + length line) most_bytes) (is_line line) is).0

-- behind a line stands no text in quotes
nothing_at : (at : Within) → is_in_nothing at ≡ true → at ≡ Nothing
nothing_at Nothing is = refl
nothing_at Text is = absurd (cc)
nothing_at Escape is = absurd (cc)

pub behind_line : (t : List ℕ) → is_line t ≡ true → within_all Nothing t ≡ Nothing
behind_line t is = nothing_at _ (and_parts (is_in_nothing (within_all Nothing t)) (list_all may_stand (outside Nothing t)) is).0

-- brackets of both
pub brackets_of : (p : ℕ → Bool) (text line : List ℕ) → is_line text ≡ true
    → count_by p (outside Nothing text) + count_by p (outside Nothing line) ≡ count_by p (outside Nothing (text ++ line))
brackets_of p text line is =
    ap (λ (at : Within). count_by p (outside Nothing text) + count_by p (outside at line)) (sym (behind_line text is))
    ∙ counted p Nothing text line

-- both are lines
both : (a b : Bool) → a ≡ true → b ≡ true → (a && b) ≡ true
both a b x y = ap (λ a. a && b) x ∙ y

pub line_of_both : (text line : List ℕ) → is_line text ≡ true → is_line line ≡ true → is_line (text ++ line) ≡ true
line_of_both text line first last =
    let a = and_parts (is_in_nothing (within_all Nothing text)) (list_all may_stand (outside Nothing text)) first in
    let b = and_parts (is_in_nothing (within_all Nothing line)) (list_all may_stand (outside Nothing line)) last in
    let nothing = behind_line text first in
    both _ _
    (ap is_in_nothing (within_append Nothing text line)
    ∙ ap (λ (at : Within). is_in_nothing (within_all at line)) nothing
    ∙ b.0)
    (sym (passed may_stand Nothing text line)
    ∙ both _ _ a.1 (ap (λ (at : Within). list_all may_stand (outside at line)) nothing ∙ b.1))

module _ (text line : List ℕ) (opens_so_far closes_so_far : ℕ) (scan : Scan)
    (so_far : IsGathered text opens_so_far closes_so_far) (is : scan ≡ scanned unscanned line) (fit : fits text line ≡ true) where
  opened_of : scan.opened ≡ opened line
  opened_of = let e = ap (λ (s : Scan). s.opened) is in omega (arith, e)

  closed_of : scan.closed ≡ closed line
  closed_of = let e = ap (λ (s : Scan). s.closed) is in omega (arith, e)

  -- the sums are no more than the bytes
  pub opened_bound : opens_so_far + scan.opened ≤ most_bytes
  opened_bound =
      omega (arith, so_far.opened, opened_of, count_bound opens Nothing text, count_bound opens Nothing line, fits_bound text line fit)

  pub closed_bound : closes_so_far + scan.closed ≤ most_bytes
  closed_bound =
      omega (arith, so_far.closed, closed_of, count_bound closes Nothing text, count_bound closes Nothing line, fits_bound text line fit)

  -- and those of both
  pub gathered : IsGathered (text ++ line) (opens_so_far + scan.opened) (closes_so_far + scan.closed)
  gathered = record {
    opened = omega (arith, so_far.opened, opened_of, brackets_of opens text line so_far.lines);
    closed = omega (arith, so_far.closed, closed_of, brackets_of closes text line so_far.lines);
    lines = line_of_both text line so_far.lines (fits_line text line fit);
    bound = omega (arith, length-append text line, fits_bound text line fit);
  }

-- what it does then
pub stepped : (text line : List ℕ) (opens_now closes_now : ℕ) (step : Step) → fits text line ≡ true
    → IsGathered (text ++ line) opens_now closes_now → step ≡ cond (nat_lt closes_now opens_now) GoesOn Ended
    → step ≡ step_of text line
stepped text line opens_now closes_now step fit now is =
    is
    ∙ ap (λ (n : ℕ). cond (nat_lt closes_now n) GoesOn Ended) now.opened
    ∙ ap (λ (n : ℕ). cond (nat_lt n (opened (text ++ line))) GoesOn Ended) now.closed
    ∙ sym (ap (λ (b : Bool). cond b (cond (is_open (text ++ line)) GoesOn Ended) Broken) fit)
