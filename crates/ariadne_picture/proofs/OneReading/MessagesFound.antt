-- What row numbers that read a picture say of its rows. Their blocks are those of the rows' names, and each message stands in the arrow row
-- of a line label that shows the same text.
use Rattle.std.proofs.Common.{◌≡◌, ℕ, zero, suc, ◌+◌, ◌-◌, ◌<◌, ◌≤◌, Bool, true, false, not, ◌||◌, List, [], ◌∷◌, ◌++◌, length, filter}
use Rattle.std.proofs.Common.{Some, refl, sym, ap, ◌∙◌, subst, arith, ◌==◌, inl, inr, ◌⊎◌, nat_lt}
use Rattle.std.specs.Prelude.{slice_get, slice_index_or, nat_le}
use Rattle.std.specs.List.{list_all, list_any, enumerate_from}
use Rattle.std.proofs.lemmas.Bool.{cases_Bool, eq-eqb, eqb-true, ltb-true, leb-true, true≢false}
use Rattle.std.proofs.lemmas.Option.{slice_get_within, slice_get-get_or}
use Rattle.std.proofs.lemmas.List.{length-append}
use Rattle.ariadne_picture.specs.Rows.{alternate}
use Rattle.ariadne_picture.specs.declared.label_info.LabelInfo.{LabelInfo}
use Rattle.ariadne_picture.specs.declared.label_info.LineLabel.{LineLabel}
use Rattle.ariadne_picture.specs.declared.cell.Ink.{Ink}
use Rattle.ariadne_picture.specs.Lists.{all_numbered}
use Rattle.ariadne_picture.specs.Ranks.{is_hidden_line, is_start}
use Rattle.ariadne_picture.specs.Rows.{Row, source, arrow}
use Rattle.ariadne_picture.specs.Columns.{layout_of}
use Rattle.ariadne_picture.specs.Pieces.{Section, blank_piece, plain_text, message_at}
use Rattle.ariadne_picture.specs.Canvas.{Cell, cell_of}
use Rattle.ariadne_picture.specs.Placing.Cells.{no_cell}
use Rattle.ariadne_picture.specs.Placing.Group.{text_cell, shown_lines, messages_of}
use Rattle.ariadne_picture.specs.Placing.Rows.{Placing, row_at, cell_at, cells_of_places, block_rows}
use Rattle.ariadne_picture.specs.Placing.Together.{is_in_block, is_group_placed, is_placing}
use Rattle.ariadne_picture.specs.Placing.MessageRows.{is_message_row, are_block_ends, has_message_rows}
use Rattle.ariadne_picture.proofs.Lists.ListFacts.{none≢some, all-at}
use Rattle.ariadne_picture.proofs.Lists.Elements.{Has, has-filter}
use Rattle.ariadne_picture.proofs.Rows.LineBlock.{IsBlockRow, IsLoneRow, block-kinds}
use Rattle.ariadne_picture.proofs.Rows.RowNumbers.{at-back}
use Rattle.ariadne_picture.proofs.Rows.RowOrder.{shown_rows}
use Rattle.ariadne_picture.proofs.Rows.RowsThere.{range-at}
use Rattle.ariadne_picture.proofs.Reading.MessageRows.{message-shown, message-hidden}
use Rattle.ariadne_picture.proofs.Reading.MessagePlaces.{message-place, two-true}
use Rattle.ariadne_picture.proofs.Reading.Pictures.{Picture, RowAt, rows_of, placing_of, number, source_row, number-at}
use Rattle.ariadne_picture.proofs.Reading.ShownLine.{IsShownLine, IsArrowRow, arrow-row, arrow-at, block-row-is, source-at, numbered-at, group-line-at, rows_above}
use Rattle.ariadne_picture.proofs.Reading.TextRows.{IsTextRow, area, arrow_inks, alternate_inks, area-length, arrow-text, alternate-text, row-length, text-at}
use Rattle.ariadne_picture.specs.Blocks.{block_size, has_whole_blocks}
use Rattle.ariadne_picture.specs.Headline.{IsReadBy}
use Rattle.ariadne_picture.proofs.Reading.WholeBlocks.{block-rows}
use Rattle.ariadne_picture.proofs.OneReading.LinesFound.{list_all-from, text-equal, only-lines, lines-agree}

-- ---- tests of each group and line

pub each-numbered : {X : Type 0} (f : ℕ → X → Bool) (xs : List X) (k : ℕ) (x : X) → all_numbered f xs ≡ true → slice_get xs k ≡ Some x → f k x ≡ true
each-numbered f xs k x e there =
    all-at (λ e. f e.0 e.1 ≡ true) (enumerate_from 0 xs) k (k, x) (numbered-at xs k x there) (list_all-from _ _ e)

pub each-group : (f : ℕ → Section → Bool) (ss : List Section) (g : ℕ) (s : Section) → all_numbered f ss ≡ true → slice_get ss g ≡ Some s → f g s ≡ true
each-group f ss g s e there =
    all-at (λ (e : ℕ × Section). f e.0 e.1 ≡ true) (enumerate_from 0 ss) g (g, s) (numbered-at ss g s there) (list_all-from _ _ e)

pub shown-there : (v : Picture) {g : ℕ} {s : Section} (l : ℕ) → IsShownLine v g s l → Has (shown_lines s) l
unfolding shown_lines
shown-there v {s = s} l h =
    has-filter (λ l. not (is_hidden_line s.sheet l)) _ _ l (group-line-at s.sheet l h.low h.high) (ap not h.seen)

pub each-line : (v : Picture) (f : ℕ → Section → ℕ → Bool) (g : ℕ) (s : Section) (l : ℕ)
    → all_numbered (λ g s. list_all (f g s) (shown_lines s)) v.sections ≡ true → IsShownLine v g s l → f g s l ≡ true
each-line v f g s l e h =
    let line = shown-there v l h in
    all-at (λ l. f g s l ≡ true) (shown_lines s) line.place l line.there
    (list_all-from _ _ (each-group (λ g s. list_all (f g s) (shown_lines s)) v.sections g s e h.group))

-- ---- elements that pass

pub any-from : {X : Type 0} (test : X → Bool) (xs : List X) → list_any test xs ≡ true → (x : X) × Has xs x × (test x ≡ true)
any-from test [] e = absurd (true≢false (sym e))
any-from test (x ∷ xs) e = elim (cases_Bool (test x)) [
  | inl on ↦ (x, record { place = 0; there = refl }, on)
  | inr off ↦
      let later : list_any test xs ≡ true = rw off at e in
      let rest = any-from test xs later in
      (rest.0, record { place = suc rest.1.place; there = rest.1.there }, rest.2)
]

pub or-cases : (b c : Bool) → (b || c) ≡ true → (b ≡ true) ⊎ (c ≡ true)
or-cases true c e = inl refl
or-cases false c e = inr e

-- the first element of a filter, or one of the others
kept-or : {X : Type 0} (test : X → Bool) (y : X) (zs xs : List X) (x : X) → test y ≡ true → (Has zs x → Has (y ∷ xs) x × (test x ≡ true)) → (k : ℕ)
    → slice_get (y ∷ zs) k ≡ Some x → Has (y ∷ xs) x × (test x ≡ true)
kept-or test y zs xs x on rest zero e = let same : y ≡ x = cc in (record { place = 0; there = ap Some same }, subst (λ z. test z ≡ true) same on)
kept-or test y zs xs x on rest (suc k) e = rest (record { place = k; there = e })

-- an element of a filter is one of the list, and passes
pub has-filtered : {X : Type 0} (test : X → Bool) (xs : List X) (x : X) → Has (filter test xs) x → Has xs x × (test x ≡ true)
has-filtered test [] x h = absurd (none≢some x h.there)
has-filtered test (y ∷ xs) x h =
    let rest : Has (filter test xs) x → Has (y ∷ xs) x × (test x ≡ true) =
    λ k. let r = has-filtered test xs x k in (record { place = suc r.0.place; there = r.0.there }, r.1) in
    elim (cases_Bool (test y)) [
      | inl on ↦ kept-or test y (filter test xs) xs x on rest h.place (rw on at h.there)
      | inr off ↦ rest (record { place = h.place; there = rw off at h.there })
    ]

-- ---- a message row, and what a row of a block is

pub record IsMessageRow (rows : List (List Cell)) (groups : List Section) (p : Placing) (s : Section) (cells : ℕ) (message : List ℕ) (n : ℕ) : Type 0 where
  pub size : length (row_at rows n) ≡ text_cell s + cells + 2
  pub text : (slice_index_or (row_at rows n) (text_cell s + cells + 1) no_cell).text ≡ message

message-row-from : (rows : List (List Cell)) (groups : List Section) (p : Placing) (s : Section) (cells : ℕ) (message : List ℕ) (n : ℕ)
    → is_message_row rows groups p s cells message n ≡ true → IsMessageRow rows groups p s cells message n
unfolding is_message_row
message-row-from rows groups p s cells message n e =
    let a = two-true _ _ e in
    let b = two-true _ _ a.0 in
    let c = two-true _ _ b.0 in
    let d = two-true _ _ c.0 in
    record { size = eqb-true _ _ d.0; text = text-equal _ _ b.1 }

module _ (v : Picture) {g : ℕ} {s : Section} {l : ℕ} (h : IsShownLine v g s l) where
  -- how many cells the places of a row of the line have
  abbrev pub count : ℕ
  count = cells_of_places (placing_of v) g s l

  -- row n is row number index of the block
  pub record IsRowOf (n : ℕ) : Type 0 where
    pub index : ℕ
    pub name : Row
    pub there : slice_get (shown_rows s.sheet l) index ≡ Some name
    pub is : number v g s name ≡ n

  pub named-row : (n : ℕ) → source_row v g l < n → n ≤ source_row v g l + length (shown_rows s.sheet l) → IsRowOf n
  named-row n low high =
      let j : ℕ = n - (source_row v g l + 1) in
      let y : Row = slice_index_or (shown_rows s.sheet l) j (source l) in
      let there : slice_get (shown_rows s.sheet l) j ≡ Some y = slice_get-get_or (shown_rows s.sheet l) j (source l) (omega arith) in
      let at = number-at v (block-row-is v h j y there) in
      let here = source-at v h in
      record { index = j; name = y; there = there; is = omega (arith, at, here) }

  -- it has places alone, or a message behind them
  pub data RowEnd : ℕ → Type 0 where
    bare_end : (n : ℕ) → length (row_at (rows_of v) n) ≡ text_cell s + count → RowEnd n
    message_end : (n r : ℕ) (x : LineLabel) → IsArrowRow v g s l r x → is_start x.side ≡ false → number v g s (arrow l r) ≡ n
        → length (row_at (rows_of v) n) ≡ text_cell s + count + 2
        → (slice_index_or (row_at (rows_of v) n) (text_cell s + count + 1) no_cell).text ≡ message_at v.texts x.info.position → RowEnd n

module _ (v : Picture) {g : ℕ} {s : Section} {l : ℕ} (h : IsShownLine v g s l) where
  places-end : {x : Row} (ink : ℕ → Ink) → IsTextRow v g s x (area s l ink ++ []) → length (row_at (rows_of v) (number v g s x)) ≡ text_cell s + count v h
  places-end {x} ink text =
      let size = row-length v text in
      let long = area-length v h ink in
      omega (arith, size, long, length-append (area s l ink) [])

  pub message-size : (r : ℕ) (x : LineLabel) → IsArrowRow v g s l r x → is_start x.side ≡ false
      → length (row_at (rows_of v) (number v g s (arrow l r))) ≡ text_cell s + count v h + 2
  unfolding layout_of
  message-size r x q off =
      let places = area s l (arrow_inks s l r) in
      let message = plain_text (message_at v.texts x.info.position) in
      let text : IsTextRow v g s (arrow l r) (places ++ blank_piece ∷ message ∷ []) =
      rw (message-shown v.texts _ x q.there off) at (arrow-text v (arrow-at v q)) in
      let long = area-length v h (arrow_inks s l r) in
      let size = row-length v text in
      let two = length-append places (blank_piece ∷ message ∷ []) in
      omega (arith, size, two, long)

  message-ends : (r : ℕ) (x : LineLabel) → IsArrowRow v g s l r x → is_start x.side ≡ false → RowEnd v h (number v g s (arrow l r))
  unfolding cell_at layout_of
  message-ends r x q off =
      let places = area s l (arrow_inks s l r) in
      let message = plain_text (message_at v.texts x.info.position) in
      let row : List Cell = row_at (rows_of v) (number v g s (arrow l r)) in
      let text : IsTextRow v g s (arrow l r) (places ++ blank_piece ∷ message ∷ []) =
      rw (message-shown v.texts _ x q.there off) at (arrow-text v (arrow-at v q)) in
      let long = area-length v h (arrow_inks s l r) in
      let size = row-length v text in
      let two = length-append places (blank_piece ∷ message ∷ []) in
      let o : text_cell s + count v h + 1 ≡ text_cell s + (length places + 1) = omega (arith, long) in
      let last : slice_index_or row (text_cell s + count v h + 1) no_cell ≡ cell_of v.palette message =
      ap (λ c. slice_index_or row c no_cell) o ∙ text-at v text (length places + 1) message (at-back places _ 1) in
      message_end (number v g s (arrow l r)) r x q off refl (omega (arith, size, two, long)) (ap (λ (c : Cell). c.text) last)

  pub row-end : (n : ℕ) → IsRowOf v h n → RowEnd v h n
  unfolding layout_of
  row-end n row =
      subst (RowEnd v h) row.is
      (by-kind (all-at (λ y. IsBlockRow s.sheet l y ⊎ IsLoneRow s.sheet l y) _ row.index row.name row.there (block-kinds s.sheet l)))
    where
      alternate-end : (r : ℕ) → row.name ≡ alternate l r → RowEnd v h (number v g s row.name)
      alternate-end r e =
          let at = subst (RowAt v g s (rows_above v h + suc row.index)) e (block-row-is v h row.index row.name row.there) in
          rw e (bare_end _ (places-end (alternate_inks v s l r) (alternate-text v at)))

      by-kind : IsBlockRow s.sheet l row.name ⊎ IsLoneRow s.sheet l row.name → RowEnd v h (number v g s row.name)
      by-kind (inr b) = alternate-end _ b.1
      by-kind (inl b) = elim b.kind [
        | inl e ↦
            let q = arrow-row v b.rank b.label h b.there b.message in
            rw e (elim (cases_Bool (is_start b.label.side)) [
              | inl on ↦
                  bare_end _ (places-end (arrow_inks s l b.rank) (rw (message-hidden v.texts _ b.label q.there on) at (arrow-text v (arrow-at v q))))
              | inr off ↦ message-ends b.rank b.label q off
            ])
        | inr e ↦ alternate-end _ e.0
      ]

-- ---- row numbers that read a picture

module _ (v : Picture) (p : Placing) (h : IsReadBy (rows_of v) v.sections (message_at v.texts) p) where
  -- they find each line where its source row is
  pub line-row : {g : ℕ} {s : Section} (l : ℕ) → IsShownLine v g s l → p.source_row g l ≡ source_row v g l
  line-row {g} {s} l k =
      let line = shown-there v l k in
      lines-agree p (placing_of v) v.sections (only-lines v p h.rows_belong_together) g s line.place l k.group line.there

  -- and its block right below
  pub block-len : {g : ℕ} {s : Section} (l : ℕ) → IsShownLine v g s l → p.block_len g l ≡ length (shown_rows s.sheet l)
  unfolding has_whole_blocks
  block-len {g} {s} l k =
      eqb-true _ _ (each-line v (λ g s l. p.block_len g l == block_size s l) g s l h.blocks_are_whole k) ∙ sym (block-rows s l)

  pub in-block-row : {g : ℕ} {s : Section} (l : ℕ) (k : IsShownLine v g s l) (n : ℕ) → is_in_block (rows_of v) v.sections p g l n ≡ true → IsRowOf v k n
  unfolding is_in_block
  in-block-row {g} {s} l k n e =
      let two = two-true (nat_lt (p.source_row g l) n) (nat_le n (p.source_row g l + p.block_len g l)) e in
      let line = line-row l k in
      let size = block-len l k in
      let low = ltb-true (p.source_row g l) n two.0 in
      let high = leb-true n (p.source_row g l + p.block_len g l) two.1 in
      named-row v k n (omega arith) (omega arith)

  -- ---- messages

  abbrev cells : ℕ → Section → ℕ → ℕ
  cells g s l = cells_of_places p g s l

  -- the message of a label stands in its block
  pub message-in : (g : ℕ) (s : Section) (a : LabelInfo) → slice_get v.sections g ≡ Some s → Has (messages_of s) a
      → is_in_block (rows_of v) v.sections p g a.end_line (p.message_row a.position) ≡ true
  unfolding is_placing is_group_placed
  message-in g s a there has =
      let x = two-true _ _ h.rows_belong_together in
      let y = two-true _ _ x.0 in
      let group = each-group (is_group_placed (rows_of v) v.sections p) v.sections g s y.1 there in
      let z = two-true _ _ group in
      let w = two-true _ _ z.0 in
      all-at (λ (a : LabelInfo). is_in_block (rows_of v) v.sections p g a.end_line (p.message_row a.position) ≡ true) (messages_of s) has.place a has.there
      (list_all-from _ _ w.1)

  -- the rows of a block end as they should
  pub record Ends (g : ℕ) (s : Section) (l : ℕ) : Type 0 where
    pub messages : (a : LabelInfo) → Has (messages_of s) a → a.end_line ≡ l
        → IsMessageRow (rows_of v) v.sections p s (cells g s l) (message_at v.texts a.position) (p.message_row a.position)
    pub others : (n : ℕ) → source_row v g l < n → n ≤ source_row v g l + length (shown_rows s.sheet l)
        → ((a : LabelInfo) × Has (messages_of s) a × (a.end_line ≡ l) × (p.message_row a.position ≡ n))
        ⊎ (length (row_at (rows_of v) n) ≡ text_cell s + cells g s l)

  pub ends-of : (g : ℕ) (s : Section) (l : ℕ) → IsShownLine v g s l → Ends g s l
  unfolding has_message_rows are_block_ends block_rows
  ends-of g s l k =
      let e = each-line v (are_block_ends (rows_of v) v.sections p (message_at v.texts)) g s l h.each_message_has_one_row_of_its_own k in
      let two = two-true _ _ e in
      let line = line-row l k in
      let size = block-len l k in
      record {
        messages = λ a has end.
            let here = has-filter (λ (a : LabelInfo). a.end_line == l) (messages_of s) has.place a has.there (eq-eqb a.end_line l end) in
            message-row-from (rows_of v) v.sections p s (cells g s l) (message_at v.texts a.position) (p.message_row a.position)
            (all-at (λ (a : LabelInfo). is_message_row (rows_of v) v.sections p s (cells g s l) (message_at v.texts a.position) (p.message_row a.position) ≡ true)
            (filter (λ (a : LabelInfo). a.end_line == l) (messages_of s)) here.place a here.there (list_all-from _ _ two.0));
        others = λ n low high.
            let ended : List LabelInfo = filter (λ (a : LabelInfo). a.end_line == l) (messages_of s) in
            let test : ℕ → Bool =
            λ n. list_any (λ (a : LabelInfo). p.message_row a.position == n) ended || (length (row_at (rows_of v) n) == text_cell s + cells g s l) in
            let j : ℕ = n - (p.source_row g l + 1) in
            let z : p.source_row g l + 1 + j ≡ n = omega arith in
            let at = range-at (p.source_row g l + 1) (p.block_len g l) j (omega arith) ∙ ap Some z in
            let passes : test n ≡ true = all-at (λ n. test n ≡ true) _ j n at (list_all-from _ _ two.1) in
            elim (or-cases (list_any (λ (a : LabelInfo). p.message_row a.position == n) ended) _ passes) [
              | inl some ↦
                  let a = any-from (λ (a : LabelInfo). p.message_row a.position == n) ended some in
                  let own = has-filtered (λ (a : LabelInfo). a.end_line == l) (messages_of s) a.0 a.1 in
                  inl (a.0, own.0, eqb-true a.0.end_line l own.1, eqb-true _ n a.2)
              | inr long ↦ inr (eqb-true _ _ long)
            ];
      }

  -- the message of label a of group g stands in the arrow row of a line label, which is no start and shows the same text, behind as many cells
  -- as the row has
  pub record MessageFound (g : ℕ) (s : Section) (a : LabelInfo) : Type 0 where
    pub line : IsShownLine v g s a.end_line
    pub rank : ℕ
    pub label : LineLabel
    pub arrow_row : IsArrowRow v g s a.end_line rank label
    pub no_start : is_start label.side ≡ false
    pub row : number v g s (arrow a.end_line rank) ≡ p.message_row a.position
    pub text : message_at v.texts a.position ≡ message_at v.texts label.info.position
    pub same_cells : cells g s a.end_line ≡ count v line

  -- the rows of p are those of the picture, whatever the placing
  pub same-rows : (n : ℕ) → row_at (rows_of v) n ≡ row_at (rows_of v) n
  unfolding row_at
  same-rows n = refl

  -- p counts as many cells of places: its message rows and the others are those of the picture
  cells-same : (g : ℕ) (s : Section) (l : ℕ) (k : IsShownLine v g s l) (e : Ends g s l) (n n' : ℕ)
      → length (row_at (rows_of v) n) ≡ text_cell s + cells g s l + 2 → RowEnd v k n
      → length (row_at (rows_of v) n') ≡ text_cell s + count v k + 2
      → ((a : LabelInfo) × Has (messages_of s) a × (a.end_line ≡ l) × (p.message_row a.position ≡ n'))
      ⊎ (length (row_at (rows_of v) n') ≡ text_cell s + cells g s l)
      → cells g s l ≡ count v k
  cells-same g s l k e n n' size end own (inl a) =
      let other = (e.messages a.0 a.1 a.2).size in
      let at = ap (λ n. length (row_at (rows_of v) n)) a.3 in
      let rows = ap length (same-rows n') in
      omega (arith, other, at, rows, own)
  cells-same g s l k e n n' size (bare_end m long) own (inr other) =
      let rows = ap length (same-rows n) in
      let more = ap length (same-rows n') in
      absurd (omega (arith, size, long, rows, own, more, other))
  cells-same g s l k e n n' size (message_end m r x q off is long text) own (inr other) =
      let rows = ap length (same-rows n) in
      let more = ap length (same-rows n') in
      absurd (omega (arith, size, long, rows, own, more, other))

  -- so the row of a message is that of a line label
  pub message-found : (g : ℕ) (s : Section) (a : LabelInfo) → slice_get v.sections g ≡ Some s → Has (messages_of s) a → MessageFound g s a
  unfolding messages_of
  message-found g s a there has =
      let own = has-filtered (λ (a : LabelInfo). a.has_message) s.sheet.labels a has in
      let m = message-place v (record { group = there; index = own.0.place; there = own.0.there; message = own.1 }) in
      let k : IsShownLine v g s a.end_line = m.arrow_row.line in
      let e = ends-of g s a.end_line k in
      let mine = e.messages a has refl in
      let here = in-block-row a.end_line k (p.message_row a.position) (message-in g s a there has) in
      let end = row-end v k _ here in
      let own_row : ℕ = number v g s (arrow a.end_line m.rank) in
      let at = number-at v (arrow-at v m.arrow_row) in
      let source = source-at v k in
      let long = slice_get_within (shown_rows s.sheet a.end_line) m.arrow_row.index _ m.arrow_row.row in
      let size = message-size v k m.rank m.label m.arrow_row m.shows.no_start in
      let same = cells-same g s a.end_line k e (p.message_row a.position) own_row mine.size end size
      (e.others own_row (omega (arith, at, source)) (omega (arith, at, source, long))) in
      go g s a k mine end same
    where
      go : (g : ℕ) (s : Section) (a : LabelInfo) (k : IsShownLine v g s a.end_line)
          → IsMessageRow (rows_of v) v.sections p s (cells g s a.end_line) (message_at v.texts a.position) (p.message_row a.position)
          → RowEnd v k (p.message_row a.position) → (cells g s a.end_line ≡ count v k) → MessageFound g s a
      go g s a k mine (bare_end n long) same =
          let size = mine.size in let rows = ap length (same-rows n) in absurd (omega (arith, size, long, rows, same))
      go g s a k mine (message_end n r x q off is long text) same =
          record { line = k; rank = r; label = x; arrow_row = q; no_start = off; row = is; text = sym mine.text ∙ (λ i. (slice_index_or (same-rows n i) (text_cell s + same i + 1) no_cell).text) ∙ text; same_cells = same }
