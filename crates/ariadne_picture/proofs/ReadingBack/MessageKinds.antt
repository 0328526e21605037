-- The rows that a reader takes for those of messages are the arrow rows of line labels that are no starts.
use Rattle.ariadne_picture.specs.ReadBack.Rows.{Known}
use Rattle.std.proofs.Common.{◌≡◌, ℕ, suc, ◌-◌, ◌%◌, Bool, true, false, not, ◌&&◌, ◌||◌, ◌==◌, List, Option, Some, None}
use Rattle.std.proofs.Common.{is_some, refl, sym, ap, ◌∙◌, arith, inl, inr}
use Rattle.std.specs.Prelude.{slice_get}
use Rattle.std.proofs.lemmas.Bool.{cases_Bool, and_right, or_from, or_left, or_right, eq-eqb, ne_eqb, lt-ltb}
use Rattle.ariadne_picture.specs.declared.switches.Switches.{Switches}
use Rattle.ariadne_picture.specs.declared.cell.Glyph.TheVariants.{Ltop}
use Rattle.ariadne_picture.specs.declared.label_info.LineLabel.{LineLabel}
use Rattle.ariadne_picture.specs.Ranks.{is_start, line_labels}
use Rattle.ariadne_picture.specs.Rows.{Row, group_header, spacer, source, alternate, arrow, gap, bare, blank, piece, tail}
use Rattle.ariadne_picture.specs.Pieces.{Section}
use Rattle.ariadne_picture.specs.Placing.Group.{set_of, text_cell}
use Rattle.ariadne_picture.specs.ReadBack.Rows.{is_heading, last_before, line_row, has_line, text_begin, has_strokes, is_below_lines, is_arrow_row}
use Rattle.ariadne_picture.specs.ReadBack.Answer.{gutter_turn, has_message}
use Rattle.ariadne_picture.proofs.Lists.Elements.{Has}
use Rattle.ariadne_picture.proofs.Rows.RowOrder.{shown_rows}
use Rattle.ariadne_picture.proofs.Reading.Pictures.{Picture, RowAt, rows_of, number, number-at}
use Rattle.ariadne_picture.proofs.Reading.PlaceCounts.{ArePlaced}
use Rattle.ariadne_picture.proofs.Reading.RowNames.{name-of, named-arrow}
use Rattle.ariadne_picture.proofs.Reading.ShownLine.{IsShownLine, IsArrowRow, arrow-at, source-row-is}
use Rattle.ariadne_picture.proofs.ReadingBack.RowKinds.{names_heading, names_below, below-kind}
use Rattle.ariadne_picture.proofs.ReadingBack.RowPlaces.{group-is, header-is, line-found}
use Rattle.ariadne_picture.proofs.ReadingBack.BlockRows.{paired, block-line, block-below}
use Rattle.ariadne_picture.proofs.ReadingBack.LineTexts.{AreSources, ArePrintedApart}
use Rattle.ariadne_picture.proofs.ReadingBack.LineFound.{some-above, begin-below, begin-is}
use Rattle.ariadne_picture.proofs.ReadingBack.FirstStrokes.{shows_some, behind, strokes-by, arrow-shows-some, bare-shows-none, blank-shows-none, piece-shows-none}
use Rattle.ariadne_picture.proofs.ReadingBack.HeadTurns.{head-turns, no-head-turns}

-- line label r is there, and no start
abbrev pub is_no_start : Option LineLabel → Bool
is_no_start None = false
is_no_start (Some x) = not (is_start x.side)

-- the rows of messages, by their names
abbrev pub names_message : Section → Row → Bool
names_message s (arrow l r) = is_no_start (slice_get (line_labels s.sheet.labels l) r)
names_message s x = false

-- four tests, of which one fails
first-off : (a b c d e : Bool) → a ≡ false → (a && b && c && d && e) ≡ false
first-off a b c d e off = rw off refl

third-off : (a b c d e : Bool) → (b ≡ true → c ≡ false) → (a && b && c && d && e) ≡ false
third-off true true c d e off = rw (off refl) refl
third-off true false c d e off = refl
third-off false b c d e off = refl

fourth-off : (a b c d e : Bool) → d ≡ false → (a && b && c && d && e) ≡ false
fourth-off a b c d e off = rw (off, and_right (a && b && c) false refl) refl

-- and of which all but the last pass
all-but-last : (a b c d e : Bool) → a ≡ true → b ≡ true → c ≡ true → d ≡ true → (a && b && c && d && e) ≡ e
all-but-last a b c d e f g h i = rw (f, g, h, i) refl

module _ (v : Picture) (sources : List Known) where
  abbrev switches : Switches
  switches = v.texts.switches

  -- a row has a message if five tests say so
  abbrev message : ℕ → Bool
  message = has_message (rows_of v) sources switches

  abbrev odd : ℕ → Bool
  odd n = switches.compact || (((n - line_row (rows_of v) sources switches n) % 2) == 0)

  five : (n : ℕ) → message n
      ≡ (is_below_lines (rows_of v) sources switches n && has_line (rows_of v) sources switches n && has_strokes (rows_of v) sources switches n
      && odd n && not (is_some (gutter_turn (rows_of v) sources switches Ltop n)))
  unfolding has_message is_arrow_row
  five n = refl

  odd-off : (n : ℕ) → odd n ≡ false → message n ≡ false
  odd-off n off =
      five n
      ∙ fourth-off (is_below_lines (rows_of v) sources switches n) (has_line (rows_of v) sources switches n) (has_strokes (rows_of v) sources switches n)
      (odd n) (not (is_some (gutter_turn (rows_of v) sources switches Ltop n))) off

module _ (v : Picture) (sources : List Known) (from : AreSources v sources) (placed : ArePlaced v) {g : ℕ} {s : Section}
    (apart : ArePrintedApart s) where
  -- ---- rows of other kinds

  -- rows that don't stand below lines
  no-message : {k : ℕ} {x : Row} → RowAt v g s k x → names_below x ≡ false → message v sources (number v g s x) ≡ false
  no-message is off = five v sources _ ∙ first-off _ _ _ _ _ (below-kind v sources is ∙ off)

  -- rows with nothing behind the gutter of the line above
  no-strokes : {k : ℕ} {x : Row} → RowAt v g s k x → names_heading x ≡ false
      → shows_some (set_of s) (behind v s (number v g s x)) ≡ false → message v sources (number v g s x) ≡ false
  no-strokes {k} {x} is other none =
      let n = number v g s x in
      five v sources n
      ∙ third-off _ _ _ _ _ (λ on.
      let found = line-found v sources is (some-above v k is other) on in
      let name = name-of v found.2 in
      let h : IsShownLine v g s found.0 = record { group = is.group; low = name.0; high = name.1; seen = name.2 } in
      let begin = begin-below v sources from placed h apart n (group-is v sources is (some-above v k is other)) found.3 in
      strokes-by v sources g s n is.group begin ∙ none)

  -- ---- the rows of line labels

  module _ (l r : ℕ) (h : IsShownLine v g s l) (at : Has (shown_rows s.sheet l) (alternate l r)) where
    -- an odd number of rows below the line
    no-alternate : s.sheet.switches.compact ≡ false → message v sources (number v g s (alternate l r)) ≡ false
    no-alternate loose =
        let n = number v g s (alternate l r) in
        let pair = paired s.sheet l at.place (alternate l r) loose at.there in
        let far : n - line_row (rows_of v) sources v.texts.switches n ≡ suc at.place =
        ap (λ m. n - m) (block-line v sources h at.place (alternate l r) at.there) ∙ block-below v sources h at.place (alternate l r) at.there in
        let same : v.texts.switches.compact ≡ false = ap (λ (switches : Switches). switches.compact) (sym (v.drawn.same_switches g s h.group)) ∙ loose in
        let even : (((n - line_row (rows_of v) sources v.texts.switches n) % 2) == 0) ≡ false =
        ne_eqb ((n - line_row (rows_of v) sources v.texts.switches n) % 2) 0 (λ e. let rest = ap (λ m. m % 2) far in omega (arith, rest, pair, e)) in
        let off : odd v sources n ≡ false = or_from v.texts.switches.compact _ same even in
        odd-off v sources n off

  -- what is said of the arrow row of line label x
  module _ {l r : ℕ} {x : LineLabel} (q : IsArrowRow v g s l r x) where
    abbrev here : ℕ
    here = number v g s (arrow l r)

    begins : text_begin (rows_of v) sources v.texts.switches here ≡ text_cell s
    begins = begin-is v sources from placed q.line apart q.index (arrow l r) q.row

    -- that of a start has its head in the gutter
    no-start-message : is_start x.side ≡ true → message v sources here ≡ false
    unfolding has_message
    no-start-message on =
        rw (head-turns v sources q begins on) (and_right (is_arrow_row (rows_of v) sources v.texts.switches here) false refl)

    -- a line stands above
    has-line : has_line (rows_of v) sources v.texts.switches here ≡ true
    unfolding has_line
    has-line =
        let at = number-at v (source-row-is v q.line) in
        let some = some-above v _ (source-row-is v q.line) refl in
        let header = header-is v sources (arrow-at v q) (some-above v _ (arrow-at v q) refl) in
        let row = block-line v sources q.line q.index (arrow l r) q.row in
        lt-ltb (last_before (is_heading (rows_of v) sources v.texts.switches) here) (line_row (rows_of v) sources v.texts.switches here) (omega (arith, at, some, header, row))

    is-odd : odd v sources here ≡ true
    is-odd = elim (cases_Bool s.sheet.switches.compact) [
      | inl close ↦
          let same : v.texts.switches.compact ≡ true = ap (λ (switches : Switches). switches.compact) (sym (v.drawn.same_switches g s q.line.group)) ∙ close in
          or_left v.texts.switches.compact _ same
      | inr loose ↦
          let pair = paired s.sheet l q.index (arrow l r) loose q.row in
          let far = ap (λ m. here - m) (block-line v sources q.line q.index (arrow l r) q.row) ∙ block-below v sources q.line q.index (arrow l r) q.row in
          or_right v.texts.switches.compact _ (eq-eqb _ 0 (ap (λ m. m % 2) far ∙ pair))
    ]

    -- and the others have a message
    pub is-message : is_start x.side ≡ false → message v sources here ≡ true
    is-message off =
        five v sources here
        ∙ all-but-last _ _ _ _ _ (below-kind v sources (arrow-at v q)) has-line
        (strokes-by v sources g s here q.line.group begins ∙ arrow-shows-some v q off) is-odd
        ∙ ap (λ o. not (is_some o)) (no-head-turns v sources q begins off)

  -- ---- all rows

  pub message-kind : {k : ℕ} (x : Row) → RowAt v g s k x → message v sources (number v g s x) ≡ names_message s x
  message-kind group_header is = no-message is refl
  message-kind spacer is = no-message is refl
  message-kind (source l) is = no-message is refl
  message-kind (gap l) is = no-message is refl
  message-kind tail is = no-message is refl
  message-kind (bare l) is = no-strokes is refl (bare-shows-none v is)
  message-kind (blank a m) is = no-strokes is refl (blank-shows-none v is)
  message-kind (piece a m q) is = no-strokes is refl (piece-shows-none v a m q is)
  message-kind (alternate l r) is =
      let name = name-of v is in
      let row = name.0 in
      no-alternate l r (record { group = is.group; low = row.low; high = row.high; seen = row.seen }) row.row name.1
  message-kind (arrow l r) is =
      let name = name-of v is in
      let q = named-arrow v is name in
      elim (cases_Bool (is_start name.label.side)) [
        | inl on ↦ no-start-message q on ∙ sym (ap is_no_start q.there ∙ ap not on)
        | inr off ↦ is-message q off ∙ sym (ap is_no_start q.there ∙ ap not off)
      ]
