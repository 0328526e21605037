-- The rows of a shown line: its source row, and the block of the rows of its line labels below it.
use Rattle.std.proofs.Common.{◌≡◌, ℕ, suc, ◌+◌, ◌-◌, ◌≤◌, Bool, true, false, not, List, [], ◌∷◌, length, Some, ap, ◌∙◌, subst, arith, inl, inr, ◌⊎◌}
use Rattle.std.proofs.Common.{if◌then◌else◌}
use Rattle.std.specs.Prelude.{slice_get, slice_index_or}
use Rattle.std.specs.List.{AllByRecursion, list_all, enumerate_from}
use Rattle.std.proofs.lemmas.Bool.{not-true}
use Rattle.std.proofs.lemmas.Option.{slice_get-get_or}
use Rattle.ariadne_picture.specs.Ranks.{is_hidden_line, Sheet, first_line, last_line, group_lines}
use Rattle.ariadne_picture.specs.Rows.{Row, source, arrow, alternate}
use Rattle.ariadne_picture.specs.Columns.{layout_of, arrow_len}
use Rattle.ariadne_picture.specs.Pieces.{Section}
use Rattle.ariadne_picture.specs.Placing.Group.{shown_lines}
use Rattle.ariadne_picture.specs.Placing.Rows.{block_rows}
use Rattle.ariadne_picture.specs.Lists.{all_numbered}
use Rattle.ariadne_picture.proofs.Lists.ListFacts.{all-filtered, all-at}
use Rattle.ariadne_picture.proofs.Lists.Elements.{all-range, list_all-true}
use Rattle.ariadne_picture.proofs.Rows.LineBlock.{IsBlockRow, IsLoneRow, block-kinds, above, source-place, block-place, block-count}
use Rattle.ariadne_picture.proofs.Rows.RowOrder.{all_label_rows, shown_rows}
use Rattle.ariadne_picture.proofs.Rows.RowsThere.{range-at}
use Rattle.ariadne_picture.proofs.Rows.RowPlacing.{row_list, block_len, row_placing}
use Rattle.ariadne_picture.specs.declared.label_info.LineLabel.{LineLabel}
use Rattle.ariadne_picture.proofs.Rows.RowsThere.{enumerated-at}
use Rattle.ariadne_picture.specs.Ranks.{line_labels}
use Rattle.ariadne_picture.specs.Rows.{label_rows, lone_rows}
use Rattle.ariadne_picture.proofs.Lists.Elements.{Has, has-first, has-front, has-back, has-joined}
use Rattle.ariadne_picture.proofs.Reading.Pictures.{Picture, placing_of, source_row, start_of, number, RowAt, section-is, every-group}
use Rattle.ariadne_picture.proofs.Reading.Pictures.{number-at}

-- group g, which is s, shows line l
pub record IsShownLine (v : Picture) (g : ℕ) (s : Section) (l : ℕ) : Type 0 where
  pub group : slice_get v.sections g ≡ Some s
  pub low : first_line s.sheet ≤ l
  pub high : l ≤ last_line s.sheet
  pub seen : is_hidden_line s.sheet l ≡ false

-- line label r of a shown line, which is x, has a message, and its arrow row stands at this index of the block
pub record IsArrowRow (v : Picture) (g : ℕ) (s : Section) (l r : ℕ) (x : LineLabel) : Type 0 where
  pub line : IsShownLine v g s l
  pub there : slice_get (line_labels s.sheet.labels l) r ≡ Some x
  pub message : x.info.has_message ≡ true
  pub index : ℕ
  pub row : slice_get (shown_rows s.sheet l) index ≡ Some (arrow l r)

-- how many places a row below line l has
abbrev pub places_of : Section → ℕ → ℕ
places_of s l = arrow_len s.sheet.switches (layout_of s.sheet l)

-- the lines of a group are those from its first one to its last one
pub all-group-lines : (P : ℕ → Type 0) (s : Sheet)
    → ((l : ℕ) → first_line s ≤ l → l ≤ last_line s → P l) → AllByRecursion P (group_lines s)
unfolding group_lines
all-group-lines P s f = all-range P _ _ (λ j less. f (first_line s + j) (omega arith) (omega arith))

-- and each of these has its place among them
pub group-line-at : (s : Sheet) (l : ℕ) → first_line s ≤ l → l ≤ last_line s
    → slice_get (group_lines s) (l - first_line s) ≡ Some l
unfolding group_lines
group-line-at s l low high =
    let whole : first_line s + (l - first_line s) ≡ l = omega arith in
    range-at (first_line s) _ _ (omega arith) ∙ ap Some whole

-- element k of a numbered list is element k with its number
pub numbered-at : {X : Type 0} (xs : List X) (k : ℕ) (x : X) → slice_get xs k ≡ Some x → slice_get (enumerate_from 0 xs) k ≡ Some (k, x)
numbered-at xs k x e = let z : 0 + k ≡ k = omega arith in enumerated-at 0 k xs x e ∙ ap (λ m. Some (m, x)) z

module _ (v : Picture) where
  -- a claim that each shown line of a group meets
  pub every-line : (g : ℕ) (s : Section) (P : ℕ → Type 0) → slice_get v.sections g ≡ Some s
      → ((l : ℕ) → IsShownLine v g s l → P l) → AllByRecursion P (shown_lines s)
  unfolding shown_lines
  every-line g s P e h =
      all-filtered P (λ l. not (is_hidden_line s.sheet l)) _
      (all-group-lines _ s.sheet (λ l low high n. h l (record { group = e; low = low; high = high; seen = not-true _ n })))

  -- a test that each shown line of each group passes
  pub every-shown-line : (test : ℕ → Section → ℕ → Bool)
      → ((g : ℕ) (s : Section) (l : ℕ) → IsShownLine v g s l → test g s l ≡ true)
      → all_numbered (λ g s. list_all (test g s) (shown_lines s)) v.sections ≡ true
  every-shown-line test f = every-group v _ (λ g s e. list_all-true _ _ (every-line g s _ e (f g s)))

  -- ---- the rows of a shown line

  module _ {g : ℕ} {s : Section} {l : ℕ} (h : IsShownLine v g s l) where
    -- how many rows of its group stand above its source row
    abbrev pub rows_above : ℕ
    rows_above = length (above s.sheet s.is_last v.texts.helps v.texts.notes l)

    -- the group's rows are those above, the source row, the block and others
    pub source-row-is : RowAt v g s rows_above (source l)
    unfolding row_list
    source-row-is = record { group = h.group; name = source-place _ _ _ _ l h.low h.high h.seen }

    -- row j of the block stands below the source row
    pub block-row-is : (j : ℕ) (y : Row) → slice_get (shown_rows s.sheet l) j ≡ Some y → RowAt v g s (rows_above + suc j) y
    unfolding row_list
    block-row-is j y e = record { group = h.group; name = block-place _ _ _ _ l h.low h.high h.seen j y e }

    -- the placing looks the group up
    pub source-is : source_row v g l ≡ number v g s (source l)
    unfolding row_placing
    source-is = section-is v.texts v.sections g s _ h.group

    -- the rows below have as many places as an arrow row
    pub places-are : (placing_of v).places g l ≡ places_of s l
    unfolding row_placing
    places-are = section-is v.texts v.sections g s (λ s. places_of s l) h.group

    -- the rows stand in their order behind the group's first one
    pub source-at : source_row v g l ≡ start_of v g + rows_above
    source-at = source-is ∙ number-at v source-row-is

    -- and the block is as long as the list of its rows
    pub block-at : (placing_of v).block_len g l ≡ length (shown_rows s.sheet l)
    unfolding row_placing block_len row_list
    block-at = section-is v.texts v.sections g s (λ s. block_len v.texts v.sections s l) h.group ∙ block-count _ _ _ _ l h.low h.high h.seen

  -- ---- the block

  -- the rows of a label are there if it has a message, and its arrow row is the last of them
  pub arrow-row : {g : ℕ} {s : Section} {l : ℕ} (r : ℕ) (x : LineLabel) → IsShownLine v g s l → slice_get (line_labels s.sheet.labels l) r ≡ Some x
      → x.info.has_message ≡ true → IsArrowRow v g s l r x
  unfolding shown_rows label_rows
  arrow-row {g} {s} {l} r x line e m =
      let others = if s.sheet.switches.compact then [] else alternate l r ∷ [] in
      let here : Has (shown_rows s.sheet l) (arrow l r) =
      has-front (all_label_rows s.sheet l) (lone_rows s.sheet l) (arrow l r)
      (has-joined (label_rows s.sheet.switches.compact l) (enumerate_from 0 (line_labels s.sheet.labels l)) r (r, x) (arrow l r) (numbered-at _ r x e)
      (rw m (has-back others _ _ (has-first (arrow l r) [])))) in
      record { line = line; there = e; message = m; index = here.place; row = here.there }

  -- it is a row of the picture
  pub arrow-at : {g : ℕ} {s : Section} {l r : ℕ} {x : LineLabel} (q : IsArrowRow v g s l r x)
      → RowAt v g s (rows_above q.line + suc q.index) (arrow l r)
  arrow-at q = block-row-is q.line q.index _ q.row

  module _ {g : ℕ} {s : Section} {l : ℕ} (h : IsShownLine v g s l) where
    -- the rows of the block are arrow rows of its line labels with a message, and alternate rows
    pub every-block-row : (P : ℕ → Type 0)
        → ((r : ℕ) (x : LineLabel) → IsArrowRow v g s l r x → P (number v g s (arrow l r)))
        → ((k r : ℕ) → RowAt v g s k (alternate l r) → P (number v g s (alternate l r)))
        → AllByRecursion P (block_rows (placing_of v) g l)
    unfolding block_rows
    every-block-row P arrows alternates =
        all-range P _ _ (λ j less.
        let y : Row = slice_index_or (shown_rows s.sheet l) j (source l) in
        let here = source-at h in
        let long = block-at h in
        let there : slice_get (shown_rows s.sheet l) j ≡ Some y = slice_get-get_or (shown_rows s.sheet l) j (source l) (omega arith) in
        let n = number-at v (block-row-is h j y there) in
        let same : number v g s y ≡ source_row v g l + 1 + j = omega arith in
        subst P same (by-kind j y there (all-at (λ y. IsBlockRow s.sheet l y ⊎ IsLoneRow s.sheet l y) _ j y there (block-kinds s.sheet l))))
      where
        by-kind : (j : ℕ) (y : Row) → slice_get (shown_rows s.sheet l) j ≡ Some y → IsBlockRow s.sheet l y ⊎ IsLoneRow s.sheet l y → P (number v g s y)
        by-kind j y there (inr b) = rw b.1 (alternates _ _ (subst (RowAt v g s _) b.1 (block-row-is h j y there)))
        by-kind j y there (inl b) = elim b.kind [
          | inl e ↦ rw e (arrows b.rank b.label (arrow-row b.rank b.label h b.there b.message))
          | inr e ↦ rw e.0 (alternates _ b.rank (subst (RowAt v g s _) e.0 (block-row-is h j y there)))
        ]
