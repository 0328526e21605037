-- What the name of a row in a group tells: which lines are shown, and which line labels have rows.
use Rattle.std.proofs.Common.{◌≡◌, ℕ, ◌-◌, ◌≤◌, ◌&&◌, nat_lt, Bool, true, false, List, [], ◌∷◌, ◌++◌, length, Some, inl, inr, ◌⊎◌, ap, ◌∙◌, if◌then◌else◌}
use Rattle.std.specs.Prelude.{slice_get}
use Rattle.std.specs.List.{AllByRecursion, enumerate_from}
use Rattle.std.specs.Str.Lines.{lines}
use Rattle.std.proofs.lemmas.Bool.{cond_both}
use Rattle.ariadne_base.specs.Locations.{upto}
use Rattle.ariadne_picture.proofs.Lists.Elements.{Has, all-from}
use Rattle.ariadne_picture.proofs.Rows.LoneRows.{lone}
use Rattle.ariadne_picture.specs.declared.label_info.LineLabel.{LineLabel}
use Rattle.ariadne_picture.specs.Lists.{joined}
use Rattle.ariadne_picture.specs.Ranks.{Sheet, line_labels, is_hidden_line, first_line, last_line, group_lines}
use Rattle.ariadne_picture.specs.Rows.{Row, Aside, help, note, group_header, spacer, source, alternate, arrow, gap, bare, blank, piece, tail}
use Rattle.ariadne_picture.specs.Rows.{is_inside, line_rows, aside_rows, asides, rows}
use Rattle.ariadne_picture.specs.Pieces.{Section}
use Rattle.ariadne_picture.proofs.Lists.ListFacts.{all-append, all-joined, all-map, all-every, all-at}
use Rattle.ariadne_picture.proofs.Rows.LineBlock.{IsBlockRow, IsLoneRow, block-kinds}
use Rattle.ariadne_picture.proofs.Rows.RowOrder.{shown_rows}
use Rattle.ariadne_picture.proofs.Reading.Pictures.{Picture, RowAt}
use Rattle.ariadne_picture.proofs.Reading.ShownLine.{IsArrowRow, arrow-row, all-group-lines}
use Rattle.ariadne_picture.proofs.Rows.RowPlacing.{row_list}

-- line l is shown, with line label r, which has a message
pub record IsLabelRow (s : Sheet) (l r : ℕ) : Type 0 where
  pub low : first_line s ≤ l
  pub high : l ≤ last_line s
  pub seen : is_hidden_line s l ≡ false
  pub label : LineLabel
  pub there : slice_get (line_labels s.labels l) r ≡ Some label
  pub message : label.info.has_message ≡ true

-- line l is shown, and its block has row x
pub record IsInBlock (s : Sheet) (l : ℕ) (x : Row) : Type 0 where
  pub low : first_line s ≤ l
  pub high : l ≤ last_line s
  pub seen : is_hidden_line s l ≡ false
  pub row : Has (shown_rows s l) x

-- what the name of a row tells
abbrev pub IsName : Sheet → Row → Type 0
IsName s (source l) = (first_line s ≤ l) × (l ≤ last_line s) × (is_hidden_line s l ≡ false)
IsName s (alternate l r) = IsInBlock s l (alternate l r) × (s.switches.compact ≡ false)
IsName s (arrow l r) = IsLabelRow s l r
IsName s (gap l) = is_hidden_line s l ≡ true
IsName s (bare l) = (is_hidden_line s l ≡ true) × (is_inside s l ≡ false)
IsName s x = Unit {0}

module _ (s : Sheet) where
  -- all of these rows are as their names tell
  abbrev all : List Row → Type 0
  all = AllByRecursion (IsName s)

  -- one row or none, as a test says
  one-or-none : (b : Bool) (x : Row) → (b ≡ false → IsName s x) → all (if b then [] else x ∷ [])
  one-or-none b x f = cond_both b [] (x ∷ []) all (λ _. tt) (λ e. (f e, tt))

  -- a hidden line has a gap row or a bare row or none, a shown one its source row and its block
  line-names : (l : ℕ) → first_line s ≤ l → l ≤ last_line s → all (line_rows s l)
  unfolding line_rows shown_rows
  line-names l low high =
      let bare_row = if s.switches.compact then [] else bare l ∷ [] in
      let row = if is_inside s l then gap l ∷ [] else bare_row in
      let later : Bool = nat_lt (first_line s) l && is_hidden_line s (l - 1) in
      cond_both (is_hidden_line s l) (if later then [] else row) _ all
      (λ hidden. cond_both later [] row all (λ _. tt)
      (λ _. cond_both (is_inside s l) (gap l ∷ []) bare_row all (λ _. (hidden, tt))
      (λ out. one-or-none s.switches.compact (bare l) (λ _. (hidden, out)))))
      (λ seen. ((low, high, seen), all-from _ (shown_rows s l) (λ i y e. name seen i y e (all-at (λ y. IsBlockRow s l y ⊎ IsLoneRow s l y) _ i y e (block-kinds s l)))))
    where
      in-block : is_hidden_line s l ≡ false → (i : ℕ) (y x : Row) → slice_get (shown_rows s l) i ≡ Some y → y ≡ x → IsInBlock s l x
      in-block seen i y x e same = record { low = low; high = high; seen = seen; row = record { place = i; there = e ∙ ap Some same } }

      name : is_hidden_line s l ≡ false → (i : ℕ) (y : Row) → slice_get (shown_rows s l) i ≡ Some y → IsBlockRow s l y ⊎ IsLoneRow s l y → IsName s y
      name seen i y at (inr b) = rw b.1 (in-block seen i y (alternate l (length (line_labels s.labels l))) at b.1, (lone s l b.0).loose)
      name seen i y at (inl b) =
          let is : IsLabelRow s l b.rank =
          record { low = low; high = high; seen = seen; label = b.label; there = b.there; message = b.message } in
          elim b.kind [ inl e ↦ rw e is | inr e ↦ rw e.0 (in-block seen i y (alternate l b.rank) at e.0, e.1) ]

  -- of helps and notes nothing is asked
  aside-names : (compact : Bool) (a : Aside) (texts : List (List ℕ)) → all (asides compact a texts)
  unfolding asides aside_rows
  aside-names compact a texts =
      all-joined _ (λ (e : ℕ × List ℕ). Unit {0}) (aside_rows compact a) (enumerate_from 0 texts)
      (λ e _. all-append _ (if compact then [] else blank a e.0 ∷ []) _ (one-or-none compact (blank a e.0) (λ _. tt))
      (all-map _ (piece a e.0) _ (all-every (λ p. IsName s (piece a e.0 p)) (λ p. tt) (upto (length (lines e.1))))))
      (all-every (λ (e : ℕ × List ℕ). Unit {0}) (λ e. tt) (enumerate_from 0 texts))

  -- so each row of a group is as its name tells
  names-are : (is_last : Bool) (helps notes : List (List ℕ)) → all (rows s is_last helps notes)
  unfolding rows
  names-are is_last helps notes =
      let compact = s.switches.compact in
      let top = group_header ∷ (if compact then [] else spacer ∷ []) in
      let body = joined (line_rows s) (group_lines s) in
      let aside = (if is_last then asides compact help helps ++ asides compact note notes else []) in
      all-append _ (top ++ body ++ aside) _
      (all-append _ (top ++ body) aside
      (all-append _ top body (tt, one-or-none compact spacer (λ _. tt))
      (all-joined _ (λ l. (first_line s ≤ l) × (l ≤ last_line s)) (line_rows s) (group_lines s)
      (λ l b. line-names l b.0 b.1) (all-group-lines _ s (λ l low high. (low, high)))))
      (cond_both is_last _ [] all
      (λ _. all-append _ _ (asides compact note notes) (aside-names compact help helps) (aside-names compact note notes)) (λ _. tt)))
      (one-or-none compact tail (λ _. tt))

module _ (v : Picture) {g : ℕ} {s : Section} {k : ℕ} where
  -- a row of a group is one of its list
  pub name-of : {x : Row} → RowAt v g s k x → IsName s.sheet x
  unfolding row_list
  name-of {x} is = all-at (IsName s.sheet) _ k x is.name (names-are s.sheet s.is_last v.texts.helps v.texts.notes)

  -- an arrow row is that of a line label with a message
  pub named-arrow : {l r : ℕ} → RowAt v g s k (arrow l r) → (name : IsLabelRow s.sheet l r) → IsArrowRow v g s l r name.label
  named-arrow {r = r} is name =
      arrow-row v r name.label (record { group = is.group; low = name.low; high = name.high; seen = name.seen }) name.there name.message
