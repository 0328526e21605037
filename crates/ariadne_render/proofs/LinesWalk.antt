-- The lines of a group as they are gone through: those before an event have no labels, that of the event is shown, and its rows follow theirs.
use Rattle.std.proofs.Common.{◌≡◌, ◌∙◌, ℕ, zero, suc, ◌+◌, ◌-◌, ◌<◌, ◌≤◌, true, false, ◌&&◌, List, [], ◌∷◌, ◌++◌, length, map}
use Rattle.std.proofs.Common.{nat_lt, max, min, refl, sym, ap, subst, arith, inl, inr, Some, None}
use Rattle.std.specs.Prelude.{Option, option_map, slice_get, slice_range}
use Rattle.std.specs.List.{AllByRecursion, range_with_len}
use Rattle.std.specs.declared.ops.Range.{Range}
use Rattle.std.proofs.lemmas.Bool.{cases_Bool, cases_lt, le-ltb, lt-ltb, and_right, not_from_false, true≢false}
use Rattle.std.proofs.lemmas.List.{append-nil, map-append}
use Rattle.std.proofs.lemmas.Option.{slice_get_within}
use Rattle.ariadne_picture.specs.declared.label_info.LabelInfo.{LabelInfo}
use Rattle.ariadne_picture.specs.Bars.{EndsNoEarlier}
use Rattle.ariadne_picture.specs.Groups.{greatest, group_end_line, group_start_line}
use Rattle.ariadne_picture.specs.Lists.{joined}
use Rattle.ariadne_picture.specs.Pieces.{Section, Texts, row_pieces}
use Rattle.ariadne_picture.specs.Ranks.{Sheet, first_line, is_hidden_line, is_unlabelled, last_line}
use Rattle.ariadne_picture.specs.Rows.{Row, line_rows}
use Rattle.ariadne_picture.proofs.Lists.Joined.{joined-append, joined-one}
use Rattle.ariadne_picture.proofs.Lists.ListFacts.{all-at, all-weaker, none≢some}
use Rattle.ariadne_picture.proofs.Rows.LineBlock.{range-append}
use Rattle.ariadne_picture.proofs.Rows.NearLines.{hidden-far, shown-near, shown-with}
use Rattle.ariadne_layout.specs.declared.snippet_labels.Event.{Event}
use Rattle.ariadne_layout.specs.SnippetLabels.{IsLineEnd, events_at, events_of}
use Rattle.ariadne_layout.proofs.Events.{above, event-labelled, event-lines, label-lines, line-end, line-events, next-line, no_event-unlabelled}
use Rattle.ariadne_layout.proofs.Events.{none-above, none-between, none-on-line-above, still-above}
use Rattle.ariadne_layout.specs.Snippets.{AreOverLines, IsOverLines}
use Rattle.ariadne_layout.proofs.LinesShown.{first-label}
use Rattle.ariadne_render.specs.Pages.{PenFields, DrawsRows}
use Rattle.ariadne_render.proofs.Drawn.{draws_rows-append}
use Rattle.ariadne_render.specs.Gutters.{GutterFields, IsBeside}
use Rattle.ariadne_render.specs.DrawnLines.{AreBetween, begins_run}

-- ---- the event of a number

-- there is one, if it has a line
pub event-there : (o : Option Event) (n : ℕ) → option_map (λ e. e.line) o ≡ Some n → (e : Event) × (o ≡ Some e) × (e.line ≡ n)
event-there None n h = absurd (none≢some n h)
event-there (Some e) n h = let same : e.line ≡ n = cc in (e, refl, same)

-- else there is none
pub event-none : (o : Option Event) → option_map (λ e. e.line) o ≡ None → o ≡ None
event-none None h = refl
event-none (Some e) h = absurd (none≢some e.line (sym h))

-- ---- the last line of a group

-- the greatest of some numbers is below what all are below
greatest-below : (n : ℕ) (xs : List LabelInfo) → 0 < n → AllByRecursion (λ a. a.end_line < n) xs → greatest (map (λ a. a.end_line) xs) < n
unfolding greatest
greatest-below n [] h a = h
greatest-below n (x ∷ xs) h a = let here = a.0 in let rest = greatest-below n xs h a.1 in omega arith

-- the last line of a group is one of its source
pub last-within : (lines : List (List ℕ)) (labels : List LabelInfo) → 0 < length labels → AreOverLines lines labels
    → group_end_line labels < length lines
unfolding group_end_line
last-within lines labels some over =
    let first = first-label labels some in
    let here = (all-at (IsOverLines lines) labels 0 first.0 first.1 over).within in
    greatest-below (length lines) labels (omega arith)
    (all-weaker (IsOverLines lines) (λ a. a.end_line < length lines) labels (λ a h. h.within) over)

-- and so is the last that is shown or stands between such
pub last_shown-within : (s : Sheet) → 0 < length s.labels → AreOverLines s.lines s.labels → last_line s < length s.lines
unfolding last_line
last_shown-within s some over = let last = last-within s.lines s.labels some over in omega (arith, last)

-- the first line of a group is not below its last label's
pub first-before_last : (s : Sheet) → 0 < length s.labels → AllByRecursion EndsNoEarlier s.labels → first_line s ≤ group_end_line s.labels
unfolding first_line
first-before_last s some rise =
    let first = first-label s.labels some in
    let h = all-at _ s.labels 0 first.0 first.1 (label-lines s.labels rise) in
    let low = h.0.0 in
    let high = h.0.1 in
    omega arith

-- and that is not below the last
pub end-before_last : (s : Sheet) → group_end_line s.labels ≤ last_line s
unfolding last_line
end-before_last s = omega arith

-- ---- how far the lines are gone through

-- the lines above line l are written: of the events those before number k are above it, and the gutter has the bars beside it. From l on the lines
-- before line n are shown, since labels above are near; for the other lines of the source, of which there are `size`, none above is
pub record IsWalked (s : Sheet) (size l n k : ℕ) (g : GutterFields) : Type 0 where
  pub events : above s.labels l ≡ k
  pub low : first_line s ≤ l
  pub high : l ≤ group_end_line s.labels + 1
  pub begins : begins_run s l ≡ true
  pub up : l ≤ n
  pub near : (j : ℕ) → l ≤ j → j < n → is_hidden_line s j ≡ false
  pub far : (j m : ℕ) → n ≤ j → j < size → m < l → is_unlabelled s.labels m ≡ false → m + s.switches.context_lines < j
  pub beside : IsBeside s l g

-- the lines of a group from l to before m, of which those before n are near a label above them, and those from `far` on near one below them
pub record AreApart (s : Sheet) (l n far m : ℕ) : Type 0 where
  pub between : (lines run : Range ℕ) → lines.start ≡ l → lines.end ≡ m → run.start ≡ min n m → run.end ≡ max far (min n m)
      → AreBetween s lines run

-- the next event, number k, is on line m: the lines from l to there have no labels, and its events are those up to the next line's
pub record IsStep (s : Sheet) (size l n k m : ℕ) : Type 0 where
  pub up : l ≤ m
  pub within : m ≤ group_end_line s.labels
  pub apart : AreApart s l n (m - s.switches.context_lines) m
  pub shown : is_hidden_line s m ≡ false
  pub event : k < length (events_of s.labels)
  pub events : (end : ℕ) → IsLineEnd (events_of s.labels) k end → slice_range (events_of s.labels) k end ≡ events_at s.labels m
  pub next : (end near top : ℕ) (h : GutterFields) → IsLineEnd (events_of s.labels) k end → size ≤ top
      → near ≡ min (m + 1 + s.switches.context_lines) top → IsBeside s (m + 1) h → IsWalked s size (m + 1) near end h

-- a line below a shown one begins a run
begins-behind : (s : Sheet) (l : ℕ) → is_hidden_line s (l - 1) ≡ false → begins_run s l ≡ true
unfolding begins_run
begins-behind s l shown =
    not_from_false (nat_lt (first_line s) l && is_hidden_line s (l - 1)) (and_right (nat_lt (first_line s) l) (is_hidden_line s (l - 1)) shown)

-- lines without labels, of which those from `far` on are shown, and those before it have none near below them
module _ (s : Sheet) (size l n k far m : ℕ) (g : GutterFields) (w : IsWalked s size l n k g) (fits : m ≤ size) (up : l ≤ m) (short : far ≤ m)
    (bare : (j : ℕ) → l ≤ j → j < m → is_unlabelled s.labels j ≡ true)
    (below : (j : ℕ) → l ≤ j → far ≤ j → j < m → is_hidden_line s j ≡ false)
    (lone : (j i : ℕ) → j < far → l ≤ i → i ≤ j + s.switches.context_lines → is_unlabelled s.labels i ≡ true) where
  -- a line that is near none is hidden
  far-hidden : (j : ℕ) → n ≤ j → l ≤ j → j < far → is_hidden_line s j ≡ true
  far-hidden j past low less = hidden-far s j (λ i from to. elim (cases_lt i l) [
    | inr behind ↦ lone j i less behind to
    | inl above ↦ elim (cases_Bool (is_unlabelled s.labels i)) [
      | inl is ↦ is
      | inr some ↦ let apart = w.far j i past (omega (arith, less, short, fits)) above some in absurd (omega (arith, apart, from))
    ]
  ])

  -- the first that is not near a label above begins a run
  first-begins : begins_run s (min n m) ≡ true
  first-begins =
      let low = w.up in
      elim (cases_lt l (min n m)) [
        | inl less ↦ begins-behind s (min n m) (w.near (min n m - 1) (omega (arith, less)) (omega (arith, less)))
        | inr same ↦ let here : l ≡ min n m = omega (arith, low, up, same) in subst (λ i. begins_run s i ≡ true) here w.begins
      ]

  -- so they are shown, hidden, and shown
  lines-apart : AreApart s l n far m
  lines-apart = record {
    between = λ lines run first behind start end.
        let low = w.up in
        record {
          low = omega (arith, first, start, low, up);
          up = omega (arith, start, end);
          high = omega (arith, end, behind, short);
          above = record {
            unlabelled = λ j a b. bare j (omega (arith, a, first)) (omega (arith, b, start));
            shown = λ j a b. w.near j (omega (arith, a, first)) (omega (arith, b, start));
          };
          hidden = record {
            low = let from = w.low in omega (arith, from, start, low, up);
            begins = subst (λ i. begins_run s i ≡ true) (sym start) first-begins;
            hidden = λ j a b.
                far-hidden j (omega (arith, a, b, start, end, short)) (omega (arith, a, start, low, up)) (omega (arith, a, b, start, end));
          };
          below = record {
            unlabelled = λ j a b. bare j (omega (arith, a, end, low, up)) (omega (arith, b, behind));
            shown = λ j a b. below j (omega (arith, a, end, low, up)) (omega (arith, a, end)) (omega (arith, b, behind));
          };
        };
  }

module _ (s : Sheet) (size : ℕ) (rise : AllByRecursion EndsNoEarlier s.labels) where
  -- none is written
  pub walk-start : (g : GutterFields) → 0 < length s.labels → IsBeside s (first_line s) g → IsWalked s size (first_line s) (first_line s) 0 g
  unfolding begins_run
  walk-start g some beside =
      let last = first-before_last s some rise in
      let l = first_line s in
      record {
        events = none-above s rise;
        low = omega arith;
        high = omega arith;
        begins = rw (le-ltb l l (omega arith)) refl;
        up = omega arith;
        near = λ j low less. absurd (omega (arith, low, less));
        far = λ j m past less above some.
            absurd (true≢false (sym (no_event-unlabelled s.labels m (none-on-line-above s m rise above)) ∙ some));
        beside = beside;
      }

  module _ (l n k m : ℕ) (g : GutterFields) (w : IsWalked s size l n k g) (e : Event) (there : slice_get (events_of s.labels) k ≡ Some e) (on : e.line ≡ m)
      (fits : group_end_line s.labels < size) where
    -- the next event is on a line of the group
    event-within : (l ≤ m) × (m ≤ group_end_line s.labels)
    event-within =
        let lines = all-at (λ (e : Event). (group_start_line s.labels ≤ e.line) × (e.line ≤ group_end_line s.labels)) (events_of s.labels) k e there
        (event-lines s.labels rise) in
        let up = next-line s.labels l k e w.events there in
        let last = lines.1 in
        (omega arith, omega arith)

    -- event k is no other
    same-event : (P : ℕ → Type 0) → P m → (x : Event) → slice_get (events_of s.labels) k ≡ Some x → P x.line
    same-event P h x at = let same : m ≡ x.line = cc in subst P same h

    -- the lines above it have no labels
    lines-bare : (j : ℕ) → l ≤ j → j < m → is_unlabelled s.labels j ≡ true
    lines-bare j low less = no_event-unlabelled s.labels j (none-between s.labels l j k w.events low (λ x at. same-event (λ i. j < i) less x at))

    -- so the events before it are above its line
    events-above : above s.labels m ≡ k
    events-above = let up = event-within.0 in still-above s.labels l m k w.events up (λ x at. same-event (λ i. m ≤ i) (omega arith) x at)

    -- its line has labels
    line-labelled : is_unlabelled s.labels m ≡ false
    line-labelled = ap (is_unlabelled s.labels) (sym on) ∙ event-labelled s.labels k e there

    -- the lines above it are near it, or not
    above-apart : AreApart s l n (m - s.switches.context_lines) m
    above-apart =
        let up = event-within.0 in
        let last = event-within.1 in
        lines-apart s size l n k (m - s.switches.context_lines) m g w (omega (arith, last, fits)) up (omega arith) lines-bare
        (λ j low near less. shown-near s j m line-labelled (omega (arith, less)) (omega (arith, near)))
        (λ j i less low to. lines-bare i low (omega (arith, less, to)))

    -- and then the events of the next line are to come
    walk-next : (end near top : ℕ) (h : GutterFields) → IsLineEnd (events_of s.labels) k end → size ≤ top
        → near ≡ min (m + 1 + s.switches.context_lines) top → IsBeside s (m + 1) h → IsWalked s size (m + 1) near end h
    walk-next end near top h line room is beside =
        let low = event-within.0 in
        let high = event-within.1 in
        let first = w.low in
        let back : m + 1 - 1 ≡ m = omega arith in
        record {
          events = line-end s.labels m k end e events-above there on line;
          low = omega arith;
          high = omega arith;
          begins = begins-behind s (m + 1) (ap (is_hidden_line s) back ∙ shown-with s m line-labelled);
          up = omega (arith, is, high, fits, room);
          near = λ j a b. shown-near s j m line-labelled (omega (arith, b, is)) (omega (arith, a));
          far = λ j i past less above some. omega (arith, past, less, above, is, room);
          beside = beside;
        }

    -- the step to its line
    step-to : IsStep s size l n k m
    step-to = record {
      up = event-within.0;
      within = event-within.1;
      apart = above-apart;
      shown = shown-with s m line-labelled;
      event = slice_get_within (events_of s.labels) k e there;
      events = λ end line. line-events s.labels m k end e events-above there on line;
      next = walk-next;
    }

  -- the step to the line of event k, as the code reads that line
  pub step : (l n k m : ℕ) (g : GutterFields) (o : Option ℕ) → IsWalked s size l n k g → group_end_line s.labels < size
      → o ≡ option_map (λ e. e.line) (slice_get (events_of s.labels) k) → o ≡ Some m → IsStep s size l n k m
  step l n k m g o w fits read is =
      let found = event-there (slice_get (events_of s.labels) k) m (sym read ∙ is) in step-to l n k m g w found.0 found.1 found.2 fits

  -- where no event is left the lines to come have no labels
  pub walk-end : (l n k m : ℕ) (g : GutterFields) (o : Option ℕ) → IsWalked s size l n k g → l ≤ m → m ≤ size
      → o ≡ option_map (λ e. e.line) (slice_get (events_of s.labels) k) → o ≡ None → AreApart s l n m m
  walk-end l n k m g o w up fits read is =
      let none = event-none (slice_get (events_of s.labels) k) (sym read ∙ is) in
      let bare : (j : ℕ) → l ≤ j → is_unlabelled s.labels j ≡ true =
      λ j low. no_event-unlabelled s.labels j (none-between s.labels l j k w.events low (λ x at. absurd (none≢some x (sym none ∙ at)))) in
      lines-apart s size l n k m m g w fits up (omega arith) (λ j low less. bare j low)
      (λ j low past less. absurd (omega (arith, past, less))) (λ j i less low to. bare i low)

-- ---- rows of lines one after another

-- those of two runs of lines
pub runs-join : {X : Type 0} (f : ℕ → List X) (first l m : ℕ) → first ≤ l → l ≤ m
    → joined f (range_with_len first (l - first)) ++ joined f (range_with_len l (m - l)) ≡ joined f (range_with_len first (m - first))
runs-join f first l m low high =
    let here : first + (l - first) ≡ l = omega arith in
    let all : (l - first) + (m - l) ≡ m - first = omega arith in
    ap (λ n. joined f (range_with_len first (l - first)) ++ joined f (range_with_len n (m - l))) (sym here)
    ∙ sym (joined-append f (range_with_len first (l - first)) (range_with_len (first + (l - first)) (m - l)))
    ∙ ap (joined f) (sym (range-append first (l - first) (m - l)) ∙ ap (range_with_len first) all)

-- those of one line
pub run-one : {X : Type 0} (f : ℕ → List X) (l : ℕ) → f l ≡ joined f (range_with_len l (l + 1 - l))
run-one f l = let one : 1 ≡ l + 1 - l = omega arith in sym (joined-one f l) ∙ ap (λ n. joined f (range_with_len l n)) one

-- those of none
pub run-empty : {X : Type 0} (f : ℕ → List X) (l m : ℕ) → m ≤ l → [] ≡ joined f (range_with_len l (m - l))
unfolding joined
run-empty f l m h = let none : 0 ≡ m - l = omega arith in ap (λ n. joined f (range_with_len l n)) none

-- of hidden lines only the first has rows
later-none : (s : Sheet) (l m : ℕ) → first_line s ≤ l → ((j : ℕ) → l ≤ j → j < m → is_hidden_line s j ≡ true) → (n j : ℕ) → l < j → j + n ≤ m
    → joined (line_rows s) (range_with_len j n) ≡ []
unfolding joined line_rows
later-none s l m low hidden zero j past within = refl
later-none s l m low hidden (suc n) j past within =
    let here = hidden j (omega arith) (omega arith) in
    let above = hidden (j - 1) (omega arith) (omega arith) in
    let behind = lt-ltb (first_line s) j (omega arith) in
    rw (here, behind, above) (later-none s l m low hidden n (j + 1) (omega arith) (omega arith))

-- so the rows of a run of them are those of the first
pub run-hidden : (s : Sheet) (l m : ℕ) → first_line s ≤ l → l < m → ((j : ℕ) → l ≤ j → j < m → is_hidden_line s j ≡ true)
    → line_rows s l ≡ joined (line_rows s) (range_with_len l (m - l))
run-hidden s l m low less hidden =
    let rest : joined (line_rows s) (range_with_len (l + 1) (m - (l + 1))) ≡ [] =
    later-none s l m low hidden (m - (l + 1)) (l + 1) (omega arith) (omega arith) in
    sym (append-nil (line_rows s l)) ∙ (λ i. run-one (line_rows s) l i ++ sym rest i) ∙ runs-join (line_rows s) l (l + 1) m (omega arith)
    (omega arith)

-- rows by name, one list behind another
pub names-append : (t : Texts) (g : Section) (w : ℕ) (a b c : PenFields) (xs ys zs : List Row) → xs ++ ys ≡ zs
    → DrawsRows a b (map (row_pieces t w g) xs) → DrawsRows b c (map (row_pieces t w g) ys) → DrawsRows a c (map (row_pieces t w g) zs)
names-append t g w a b c xs ys zs same d e =
    let both : map (row_pieces t w g) xs ++ map (row_pieces t w g) ys ≡ map (row_pieces t w g) zs =
    sym (map-append (row_pieces t w g) xs ys) ∙ ap (map (row_pieces t w g)) same in
    subst (DrawsRows a c) both (draws_rows-append a b c (map (row_pieces t w g) xs) (map (row_pieces t w g) ys) d e)
