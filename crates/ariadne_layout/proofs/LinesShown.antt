-- A hidden line of a group has characters: the only line without any is that of an empty text, and a label of its group stands there.
use Rattle.std.proofs.Common.{◌≡◌, ◌∙◌, ℕ, zero, suc, ◌<◌, Bool, true, ◌&&◌, ◌==◌, List, [], ◌∷◌, ◌++◌, length, filter, refl, sym, ap, arith, Some}
use Rattle.std.specs.Prelude.{slice_get}
use Rattle.std.proofs.lemmas.Bool.{eq-eqb}
use Rattle.std.proofs.lemmas.List.{length-append}
use Rattle.ariadne_base.specs.Lines.{AreFullLines, AreLinesOf, BeginsIn, EndsIn, empty_line, full_lines, is_separator, lines_of}
use Rattle.ariadne_base.specs.Locations.{line_text}
use Rattle.ariadne_base.proofs.LineLaws.{are_lines}
use Rattle.ariadne_picture.specs.declared.label_info.LabelInfo.{LabelInfo}
use Rattle.ariadne_picture.specs.declared.label_info.LineLabel.{LineLabel}
use Rattle.ariadne_picture.specs.declared.label_info.Side.TheVariants.{Inline}
use Rattle.ariadne_picture.specs.Lists.{joined}
use Rattle.ariadne_picture.specs.Ranks.{Sheet, ends_at, inline_labels, is_hidden_line, is_on_one_line}
use Rattle.ariadne_picture.proofs.Lists.Elements.{Has, both-true, has-filter, has-map}
use Rattle.ariadne_picture.proofs.Lists.ListFacts.{all-at, none≢some}
use Rattle.ariadne_picture.proofs.Rows.NearLines.{hidden-bare}
use Rattle.ariadne_layout.specs.SnippetLabels.{labels_of}
use Rattle.ariadne_layout.proofs.Events.{labels-at, unlabelled-no_event}
use Rattle.ariadne_layout.specs.Snippets.{AreOverLines, IsOverLines}

-- a text that begins in something has a character
begun-some : (t : List ℕ) → BeginsIn (λ c. Unit {0}) t → 0 < length t
begun-some [] h = absurd h
begun-some (c ∷ t) h = omega arith

-- so has one that ends in something
ended-some : (P : ℕ → Type 0) (t : List ℕ) → EndsIn P t → 0 < length t
ended-some P [] h = absurd h
ended-some P (c ∷ t) h = omega arith

-- no full line is empty
full-some : (ls : List (List ℕ)) → AreFullLines ls → (l : ℕ) → l < length ls → 0 < length (line_text ls l)
full-some [] h l less = absurd h
full-some (x ∷ []) h zero less = begun-some x h.1
full-some (x ∷ []) h (suc l) less = absurd (omega arith)
full-some (x ∷ y ∷ ls) h zero less = ended-some (λ c. is_separator c ≡ true) x h.1
full-some (x ∷ y ∷ ls) h (suc l) less = full-some (y ∷ ls) h.3 l (omega arith)

-- a group that has labels has a first one
pub first-label : (xs : List LabelInfo) → 0 < length xs → (a : LabelInfo) × (slice_get xs 0 ≡ Some a)
first-label [] h = absurd (omega arith)
first-label (a ∷ xs) h = (a, refl)

-- a list that has an element is not empty
has-some : {X : Type 0} (xs : List X) (x : X) → Has xs x → 0 < length xs
has-some [] x h = absurd (none≢some x h.there)
has-some (y ∷ xs) x h = omega arith

-- no events have no labels
no-labels : (labels : List LabelInfo) → labels_of labels [] ≡ []
unfolding labels_of joined
no-labels labels = refl

-- a label within a line stands there
within-shown : (s : Sheet) (l k : ℕ) (a : LabelInfo) → slice_get s.labels k ≡ Some a → a.start_line ≡ l → a.end_line ≡ l → is_hidden_line s l ≡ true → ⊥
unfolding inline_labels is_on_one_line
within-shown s l k a there starts ends hidden =
    let test : LabelInfo → Bool = λ a. is_on_one_line a && (a.start_line == l) in
    let passes : test a ≡ true = both-true (a.start_line == a.end_line) (a.start_line == l) (eq-eqb a.start_line a.end_line (starts ∙ sym ends))
    (eq-eqb a.start_line l starts) in
    let make : LabelInfo → LineLabel = λ a. record { info = a; side = Inline; gutter_column = 0; place = a.attach } in
    let kept = has-filter test s.labels k a there passes in
    let made : Has (inline_labels s.labels l) (make a) = has-map make (filter test s.labels) kept.place a kept.there in
    let more = has-some (inline_labels s.labels l) (make a) made in
    let few : length (ends_at s.labels l ++ inline_labels s.labels l) ≡ 0 =
    ap length (sym (labels-at s.labels l) ∙ ap (labels_of s.labels) (unlabelled-no_event s.labels l (hidden-bare s l hidden)) ∙ no-labels s.labels) in
    let sum = length-append (ends_at s.labels l) (inline_labels s.labels l) in
    omega arith

-- so where a text has but one line, no line is hidden
one-line-shown : (s : Sheet) (l : ℕ) → length s.lines ≡ 1 → l < 1 → AreOverLines s.lines s.labels → 0 < length s.labels → is_hidden_line s l ≡ true → ⊥
one-line-shown s l one less over some hidden =
    let first = first-label s.labels some in
    let a : LabelInfo = first.0 in
    let h = all-at (IsOverLines s.lines) s.labels 0 a first.1 over in
    let rises = h.rises in
    let within = h.within in
    within-shown s l 0 a first.1 (omega arith) (omega arith) hidden

-- the lines of a text: no hidden one is empty
lines-some : (t : List ℕ) (ls : List (List ℕ)) (s : Sheet) (l : ℕ) → AreLinesOf t ls → s.lines ≡ ls → AreOverLines s.lines s.labels
    → 0 < length s.labels → l < length ls → is_hidden_line s l ≡ true → 0 < length (line_text ls l)
lines-some t ls s l empty_line e over some less hidden = absurd (one-line-shown s l (ap length e) less over some hidden)
lines-some t ls s l (full_lines a e) own over some less hidden = full-some ls a l less

-- a hidden line of a group has characters
pub hidden-some : (t : List ℕ) (s : Sheet) (l : ℕ) → s.lines ≡ lines_of t → AreOverLines s.lines s.labels → 0 < length s.labels
    → l < length (lines_of t)
    → is_hidden_line s l ≡ true → 0 < length (line_text (lines_of t) l)
hidden-some t s l own over some less hidden = lines-some t (lines_of t) s l (are_lines t) own over some less hidden
