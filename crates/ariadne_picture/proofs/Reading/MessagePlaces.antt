-- The row of each message: the arrow row of the line label that shows it, at the line where its label ends,
-- and no other label's.
use Rattle.std.proofs.Common.{◌≡◌, ℕ, ◌≤◌, Bool, true, false, not, ◌&&◌, List, length, Some, refl, sym, ap, arith, ◌==◌}
use Rattle.std.specs.Prelude.{slice_get}
use Rattle.std.specs.List.{AllByRecursion, enumerate_from}
use Rattle.std.specs.Cmp.Derive.{both_true}
use Rattle.std.proofs.lemmas.Bool.{eqb-true, eq-eqb, true≢false, not-true}
use Rattle.std.proofs.lemmas.Option.{slice_get_within}
use Rattle.ariadne_picture.specs.declared.label_info.LabelInfo.{LabelInfo}
use Rattle.ariadne_picture.specs.declared.label_info.LineLabel.{LineLabel}
use Rattle.ariadne_picture.specs.Lists.{joined}
use Rattle.ariadne_picture.specs.Bars.{EndsNoEarlier}
use Rattle.ariadne_picture.specs.Ranks.{Sheet, is_start, line_labels, first_line, last_line, group_lines}
use Rattle.ariadne_picture.specs.Rows.{arrow}
use Rattle.ariadne_picture.specs.Pieces.{Section}
use Rattle.ariadne_picture.specs.Placing.Group.{messages_of}
use Rattle.ariadne_picture.proofs.Lists.Elements.{Has, has-filter, has-map, has-joined, all-from, all-numbered, first-has}
use Rattle.ariadne_picture.proofs.Labels.LabelsAtLine.{IsHere, labels-here, label-owned, label-ends, Shows, shown-by, shows_number, shows-once, apart}
use Rattle.ariadne_picture.proofs.Labels.LabelsAtLine.{same-part, increasing-part, has-once}
use Rattle.ariadne_picture.proofs.Lists.ListFacts.{all-filtered, all-joined, all-map, all-at}
use Rattle.ariadne_picture.proofs.Rows.RowNumbers.{at-part}
use Rattle.ariadne_picture.proofs.Rows.RowPlacing.{row_list, start_row, rows_of_labels, message_rows, row_placing}
use Rattle.ariadne_picture.proofs.Rows.RowsThere.{starts-shown, ends-shown, shown-by-label}
use Rattle.ariadne_picture.proofs.Reading.Pictures.{Picture, number, message_row, number-at}
use Rattle.ariadne_picture.proofs.Reading.ShownLine.{all-group-lines, group-line-at, IsArrowRow, numbered-at, arrow-row, arrow-at}

-- two tests that both pass
pub two-true : (b c : Bool) → (b && c) ≡ true → (b ≡ true) × (c ≡ true)
two-true true c h = (refl, h)
two-true false c h = absurd (true≢false (sym h))

-- label a of group g, which is s, has a message
pub record IsMessage (v : Picture) (g : ℕ) (s : Section) (a : LabelInfo) : Type 0 where
  pub group : slice_get v.sections g ≡ Some s
  pub index : ℕ
  pub there : slice_get s.sheet.labels index ≡ Some a
  pub message : a.has_message ≡ true

-- the message of label a stands in the arrow row of a line label
pub record MessagePlace (v : Picture) (g : ℕ) (s : Section) (a : LabelInfo) : Type 0 where
  pub rank : ℕ
  pub label : LineLabel
  pub shows : Shows a label
  pub arrow_row : IsArrowRow v g s a.end_line rank label
  pub row : message_row v a.position ≡ number v g s (arrow a.end_line rank)

-- row n is the arrow row of a line label that shows the message of label k
record IsShowing (v : Picture) (k n : ℕ) : Type 0 where
  pub group : ℕ
  pub section : Section
  pub line : ℕ
  pub rank : ℕ
  pub label : LineLabel
  pub here : slice_get v.sections group ≡ Some section
  pub there : slice_get (line_labels section.sheet.labels line) rank ≡ Some label
  pub shows : shows_number k label ≡ true
  pub is : n ≡ number v group section (arrow line rank)

-- a line label is a start, an end or a label within the line
pub label-here : (s : Sheet) (l r : ℕ) (x : LineLabel) → slice_get (line_labels s.labels l) r ≡ Some x → IsHere s l x
label-here s l r x there = all-at (IsHere s l) (line_labels s.labels l) r x there (labels-here s l)

-- a line label that is no start shows the message of its label
shows-its : (x : LineLabel) (k : ℕ) → is_start x.side ≡ false → x.info.position ≡ k → shows_number k x ≡ true
shows-its x k off same = both_true (ap not off) (eq-eqb x.info.position k same)

module _ (v : Picture) where
  -- ---- the rows that the placing finds for line labels

  module _ (g : ℕ) (s : Section) (test : LineLabel → Bool) (l : ℕ) where
    -- they are those of the labels that pass
    pub all-found : (P : ℕ → Type 0)
        → ((r : ℕ) (x : LineLabel) → slice_get (line_labels s.sheet.labels l) r ≡ Some x → test x ≡ true → P (number v g s (arrow l r)))
        → AllByRecursion P (rows_of_labels v.texts v.sections g s test l)
    unfolding rows_of_labels
    all-found P f = all-map P _ _ (all-filtered _ (λ e. test e.1) _ (all-numbered _ (line_labels s.sheet.labels l) f))

    -- and each of these has its row there
    pub has-found : (r : ℕ) (x : LineLabel) → slice_get (line_labels s.sheet.labels l) r ≡ Some x → test x ≡ true
        → Has (rows_of_labels v.texts v.sections g s test l) (number v g s (arrow l r))
    unfolding rows_of_labels
    has-found r x e passes =
        let kept = has-filter (λ e. test e.1) (enumerate_from 0 (line_labels s.sheet.labels l)) r (r, x) (numbered-at _ r x e) passes in
        has-map (λ e. number v g s (arrow l e.0)) _ kept.place (r, x) kept.there

  -- all rows that it finds for a position show that message
  all-showing : (k : ℕ) → AllByRecursion (IsShowing v k) (message_rows v.texts v.sections k)
  unfolding message_rows
  all-showing k =
      all-joined _ (λ e. slice_get v.sections e.0 ≡ Some e.1) _ (enumerate_from 0 v.sections) (λ e h. of_group e.0 e.1 h)
      (all-numbered _ v.sections (λ g s e. e))
    where
      of_group : (g : ℕ) (s : Section) → slice_get v.sections g ≡ Some s
          → AllByRecursion (IsShowing v k) (joined (rows_of_labels v.texts v.sections g s (shows_number k)) (group_lines s.sheet))
      of_group g s h =
          all-joined _ (λ l. Unit {0}) _ (group_lines s.sheet)
          (λ l b. all-found g s (shows_number k) l _ (λ r x e passes.
          record { group = g; section = s; line = l; rank = r; label = x; here = h; there = e; shows = passes; is = refl }))
          (all-group-lines _ s.sheet (λ l low high. tt))

  -- and it finds the arrow row of each line label that shows it
  has-showing : (k g : ℕ) (s : Section) (l r : ℕ) (x : LineLabel) → slice_get v.sections g ≡ Some s
      → first_line s.sheet ≤ l → l ≤ last_line s.sheet → slice_get (line_labels s.sheet.labels l) r ≡ Some x
      → shows_number k x ≡ true → Has (message_rows v.texts v.sections k) (number v g s (arrow l r))
  unfolding message_rows
  has-showing k g s l r x h low high e passes =
      let found = rows_of_labels v.texts v.sections in
      has-joined (λ e. joined (found e.0 e.1 (shows_number k)) (group_lines e.1.sheet)) (enumerate_from 0 v.sections) g (g, s) _
      (numbered-at _ g s h)
      (has-joined (found g s (shows_number k)) (group_lines s.sheet) _ l _ (group-line-at s.sheet l low high)
      (has-found g s (shows_number k) l r x e passes))

  -- ---- labels of the picture

  -- a position is of one label of one group, since positions differ
  one-label : (g h j k : ℕ) (s u : Section) (a b : LabelInfo) → slice_get v.sections g ≡ Some s → slice_get s.sheet.labels j ≡ Some a
      → slice_get v.sections h ≡ Some u → slice_get u.sheet.labels k ≡ Some b → a.position ≡ b.position → (g ≡ h) × (j ≡ k)
  one-label g h j k s u a b e f m n same =
      let labels : Section → List LabelInfo = λ s. s.sheet.labels in
      same-part (λ s. length (labels s)) v.sections g h j k s u e m (slice_get_within _ j a f) (slice_get_within _ k b n)
      (apart (λ (a : LabelInfo). a.position) (joined labels v.sections) _ _ a b v.drawn.numbers
      (at-part labels v.sections g j s a e f) (at-part labels v.sections h k u b m n) same)

  -- a label lies within the lines of its group
  label-within : (g j : ℕ) (s : Section) (a : LabelInfo) → slice_get v.sections g ≡ Some s → slice_get s.sheet.labels j ≡ Some a
      → (first_line s.sheet ≤ a.end_line) × (a.end_line ≤ last_line s.sheet)
  label-within g j s a e f =
      let low = all-at (λ (a : LabelInfo). first_line s.sheet ≤ a.start_line) _ j a f (starts-shown s.sheet) in
      let up = all-at EndsNoEarlier _ j a f (v.drawn.rises g s e) in
      (omega arith, all-at (λ (a : LabelInfo). a.end_line ≤ last_line s.sheet) _ j a f (ends-shown s.sheet))

  -- ---- messages

  -- a claim of each label of a group that has a message
  pub every-message : (g : ℕ) (s : Section) (P : LabelInfo → Type 0) → slice_get v.sections g ≡ Some s
      → ((a : LabelInfo) → IsMessage v g s a → P a) → AllByRecursion P (messages_of s)
  unfolding messages_of
  every-message g s P e f =
      all-filtered P (λ a. a.has_message) s.sheet.labels
      (all-from _ s.sheet.labels (λ j a there m. f a (record { group = e; index = j; there = there; message = m })))

  -- what the placing finds for the position of a label is its own arrow row, since the position is of no other label
  settle : {g : ℕ} {s : Section} {a : LabelInfo} (n : ℕ) → IsMessage v g s a → message_row v a.position ≡ n
      → IsShowing v a.position n → MessagePlace v g s a
  settle {g} {s} {a} n m was h =
      let passes = two-true (not (is_start h.label.side)) (h.label.info.position == a.position) h.shows in
      let is = label-here h.section.sheet h.line h.rank h.label h.there in
      let off = not-true (is_start h.label.side) passes.0 in
      let owned = label-owned h.section.sheet h.line h.label is in
      let one = one-label g h.group m.index owned.place s h.section a h.label.info m.group m.there h.here owned.there
      (sym (eqb-true h.label.info.position a.position passes.1)) in
      let label : h.label.info ≡ a = cc in
      let line : h.line ≡ a.end_line = cc (label-ends h.section.sheet h.line h.label is off) in
      let there : slice_get (line_labels s.sheet.labels a.end_line) h.rank ≡ Some h.label = cc in
      let within = label-within g m.index s a m.group m.there in
      let seen = shown-by-label s.sheet a.end_line h.rank h.label there in
      record {
        rank = h.rank;
        label = h.label;
        shows = record { no_start = off; info = label };
        arrow_row =
            arrow-row v h.rank h.label (record { group = m.group; low = within.0; high = within.1; seen = seen }) there
            (cc);
        row = cc;
      }

  -- each message has its row: something is found, and all that is found is its own
  pub message-place : {g : ℕ} {s : Section} {a : LabelInfo} → IsMessage v g s a → MessagePlace v g s a
  unfolding row_placing
  message-place {g} {s} {a} m =
      let h = shown-by s.sheet m.index a m.there m.message in
      let within = label-within g m.index s a m.group m.there in
      let passes = shows-its h.0 a.position h.2.no_start (cc) in
      settle _ m refl (first-has _ _ _ 0 (all-showing a.position)
      (has-showing a.position g s a.end_line h.1.place h.0 m.group within.0 within.1 h.1.there passes))

  -- the arrow row of each line label that is no start is the row of its message, since one line label shows it
  pub arrow-shows : {g : ℕ} {s : Section} {l r : ℕ} {x : LineLabel} → IsArrowRow v g s l r x → is_start x.side ≡ false
      → message_row v x.info.position ≡ number v g s (arrow l r)
  arrow-shows {g} {s} {l} {r} {x} q off =
      let is = label-here s.sheet l r x q.there in
      let owned = label-owned s.sheet l x is in
      let ends = label-ends s.sheet l x is off in
      let h = message-place (record { group = q.line.group; index = owned.place; there = owned.there; message = q.message }) in
      let there : slice_get (line_labels s.sheet.labels l) h.rank ≡ Some h.label = cc in
      let once =
      has-once x.info.position s.sheet.labels
      (increasing-part _ (λ (s : Section). s.sheet.labels) v.sections g s v.drawn.numbers q.line.group) in
      let same : h.rank ≡ r =
      shows-once s.sheet l x.info.position h.rank r h.label x once there q.there
      (shows-its h.label _ h.shows.no_start (cc)) (shows-its x _ off refl) in
      cc

  -- two messages have two rows: the row has one name, which tells the line label
  pub messages-apart : {g h : ℕ} {s u : Section} {a b : LabelInfo} → IsMessage v g s a → IsMessage v h u b
      → message_row v a.position ≡ message_row v b.position → a.position ≡ b.position
  unfolding start_row
  messages-apart {g} {h} {s} {u} {a} {b} m n same =
      let x = message-place m in
      let y = message-place n in
      let xr = arrow-at v x.arrow_row in
      let yr = arrow-at v y.arrow_row in
      let xn = number-at v xr in
      let yn = number-at v yr in
      let xm = x.row in
      let ym = y.row in
      let list = row_list v.texts v.sections in
      let both = same-part (λ s. length (list s)) v.sections g h _ _ s u m.group n.group
      (slice_get_within (list s) _ _ xr.name) (slice_get_within (list u) _ _ yr.name) (omega (arith, xn, yn, xm, ym, same)) in
      cc
