-- The rows of a group are those that it has, case by case; and a list in their order that has the same members is the same.
use Rattle.std.proofs.Common.{◌≡◌, ℕ, zero, suc, ◌+◌, ◌-◌, Bool, true, false, ◌&&◌, List, [], ◌∷◌, ◌++◌, map, length, Some, refl, sym, ap, ◌∙◌}
use Rattle.std.proofs.Common.{subst, arith, inl, inr, ◌⊎◌, nat_lt, if◌then◌else◌, Contains, AllPairs}
use Rattle.std.specs.Prelude.{slice_get, IsTrue}
use Rattle.std.specs.List.{AllByRecursion, enumerate_from}
use Rattle.std.specs.Str.Lines.{lines}
use Rattle.std.proofs.lemmas.Bool.{cond_both, cases_Bool, cases_lt, lt-ltb, le-ltb, and_left, and_right, true≢false}
use Rattle.ariadne_base.specs.Locations.{upto}
use Rattle.ariadne_picture.proofs.Rows.LoneRows.{lone-shown}
use Rattle.ariadne_picture.specs.declared.label_info.LineLabel.{LineLabel}
use Rattle.ariadne_picture.specs.Lists.{joined}
use Rattle.ariadne_picture.specs.Ranks.{Sheet, is_hidden_line, line_labels, first_line, group_lines}
use Rattle.ariadne_picture.specs.Rows.{Aside, help, note, Row, group_header, spacer, source, alternate, arrow, gap, bare, blank, piece, tail}
use Rattle.ariadne_picture.specs.Rows.{before, label_rows, is_lone, lone_rows, is_inside, line_rows, aside_rows, asides, rows}
use Rattle.ariadne_picture.specs.RowNames.{asides_of, HasLine, BeginsHidden, HasMessage, HasUnderlines, HasAside, HasRow}
use Rattle.ariadne_picture.proofs.Lists.ListFacts.{none≢some, all-append, all-joined, all-map, all-at, Increasing}
use Rattle.ariadne_picture.proofs.Lists.Elements.{Has, has-first, has-later, has-front, has-back, has-joined, has-map, all-range, all-numbered, increasing-from}
use Rattle.ariadne_picture.proofs.Labels.GroupLines.{has-place, contained}
use Rattle.ariadne_picture.proofs.Rows.RowOrder.{all_label_rows, before-irreflexive, before-chain, rows-ordered}
use Rattle.ariadne_picture.proofs.Rows.RowsThere.{range-at, shown-by-label, arrow-there}
use Rattle.ariadne_picture.proofs.Reading.ShownLine.{all-group-lines, group-line-at, numbered-at}

-- ---- lists in an order

-- an element is the first one or one of the others
first-or-later : {X : Type 0} (y : X) (ys : List X) (x : X) → Has (y ∷ ys) x → (y ≡ x) ⊎ Has ys x
first-or-later y ys x h = go h.place h.there
  where
    go : (k : ℕ) → slice_get (y ∷ ys) k ≡ Some x → (y ≡ x) ⊎ Has ys x
    go zero e = inl (cc)
    go (suc k) e = inr (record { place = k; there = e })

module _ {X : Type 0} (R : X → X → Type 0) (irreflexive : (x : X) → R x x → ⊥) (chain : (x y z : X) → R x y → R y z → R x z) where
  -- what stands in an order behind one element and is in a list that begins with it is one of the others
  behind : (x y : X) (xs ys : List X) → x ≡ y → AllByRecursion (R x) xs → ((z : X) → Has (x ∷ xs) z → Has (y ∷ ys) z) → (z : X) → Has xs z → Has ys z
  behind x y xs ys same rises f z h = elim (first-or-later y ys z (f z (has-later x xs z h))) [
    | inl first ↦
        let more = all-at (R x) xs h.place z h.there rises in
        absurd (irreflexive x (subst (R x) (sym (same ∙ first)) more))
    | inr later ↦ later
  ]

  -- two lists in an order with the same members are the same
  only-list : (xs ys : List X) → Increasing R xs → Increasing R ys → ((x : X) → Has xs x → Has ys x) → ((x : X) → Has ys x → Has xs x) → xs ≡ ys
  only-list [] [] i j f g = refl
  only-list [] (y ∷ ys) i j f g = absurd (none≢some y (g y (has-first y ys)).there)
  only-list (x ∷ xs) [] i j f g = absurd (none≢some x (f x (has-first x xs)).there)
  only-list (x ∷ xs) (y ∷ ys) i j f g =
      let same : x ≡ y = elim (first-or-later y ys x (f x (has-first x xs))) [
        | inl first ↦ sym first
        | inr later ↦ elim (first-or-later x xs y (g y (has-first y ys))) [
          | inl first ↦ first
          | inr other ↦
              absurd (irreflexive x (chain x y x (all-at (R x) xs other.place y other.there i.0) (all-at (R y) ys later.place x later.there j.0)))
        ]
      ] in
      let rest = only-list xs ys i.1 j.1 (behind x y xs ys same i.0 f) (behind y x ys xs (sym same) j.0 g) in
      λ k. same k ∷ rest k

-- ---- each row is one that the group has

module _ (s : Sheet) (is_last : Bool) (helps notes : List (List ℕ)) where
  abbrev All : List Row → Type 0
  All = AllByRecursion (HasRow s is_last helps notes)

  label-has : (l r : ℕ) (x : LineLabel) → HasLine s l → slice_get (line_labels s.labels l) r ≡ Some x → All (label_rows s.switches.compact l (r, x))
  unfolding label_rows
  label-has l r x line there =
      let upper = if s.switches.compact then [] else alternate l r ∷ [] in
      cond_both x.info.has_message (upper ++ arrow l r ∷ []) [] All
      (λ message.
      let has : HasMessage s l r = record { line = line; label = x; there = there; message = message } in
      all-append (HasRow s is_last helps notes) upper (arrow l r ∷ [])
      (cond_both s.switches.compact [] (alternate l r ∷ []) All (λ _. tt) (λ open_form. (inl (open_form, has), tt))) (has, tt))
      (λ _. tt)

  lone-has : (l : ℕ) → HasLine s l → All (lone_rows s l)
  unfolding lone_rows
  lone-has l line =
      cond_both (is_lone s l) (alternate l (length (line_labels s.labels l)) ∷ []) [] All
      (λ on. (inr (record { line = line; lone = on; behind = refl }), tt)) (λ _. tt)

  line-has : (l : ℕ) → HasLine s l → All (line_rows s l)
  unfolding line_rows
  line-has l line =
      let later : Bool = nat_lt (first_line s) l && is_hidden_line s (l - 1) in
      let bare_row = if s.switches.compact then [] else bare l ∷ [] in
      let row = if is_inside s l then gap l ∷ [] else bare_row in
      let block = joined (label_rows s.switches.compact l) (enumerate_from 0 (line_labels s.labels l)) in
      cond_both (is_hidden_line s l) (if later then [] else row) (source l ∷ block ++ lone_rows s l) All
      (λ hidden. cond_both later [] row All (λ _. tt) (λ first.
      let begins : BeginsHidden s l = record { line = line; hidden = hidden; first = begins-run l line first } in
      cond_both (is_inside s l) (gap l ∷ []) bare_row All (λ inside. ((begins, inside), tt))
      (λ out. cond_both s.switches.compact [] (bare l ∷ []) All (λ _. tt) (λ open_form. ((open_form, begins, out), tt)))))
      (λ seen. (
        (line, seen),
        all-append (HasRow s is_last helps notes) block (lone_rows s l)
            (all-joined (HasRow s is_last helps notes) (λ e. slice_get (line_labels s.labels l) e.0 ≡ Some e.1) (label_rows s.switches.compact l)
            (enumerate_from 0 (line_labels s.labels l)) (λ e there. label-has l e.0 e.1 line there)
            (all-numbered (λ e. slice_get (line_labels s.labels l) e.0 ≡ Some e.1) (line_labels s.labels l) (λ k x e. e)))
            (lone-has l line),
      ))
    where
      begins-run : (l : ℕ) → HasLine s l → (nat_lt (first_line s) l && is_hidden_line s (l - 1)) ≡ false
          → (l ≡ first_line s) ⊎ (is_hidden_line s (l - 1) ≡ false)
      begins-run l line first = elim (cases_Bool (is_hidden_line s (l - 1))) [
        | inr seen ↦ inr seen
        | inl hidden ↦
            let low = line.0 in
            elim (cases_lt (first_line s) l) [
              | inr least ↦ inl (omega arith)
              | inl less ↦ absurd (true≢false (sym (Rattle.std.specs.Cmp.Derive.both_true (lt-ltb _ l less) hidden) ∙ first))
            ]
      ]

  aside-has : (a : Aside) → is_last ≡ true → All (asides s.switches.compact a (asides_of a helps notes))
  unfolding asides aside_rows
  aside-has a last =
      let texts = asides_of a helps notes in
      all-joined (HasRow s is_last helps notes) (λ e. slice_get texts e.0 ≡ Some e.1) (aside_rows s.switches.compact a) (enumerate_from 0 texts)
      (λ e there.
      let has : HasAside s is_last helps notes a e.0 = record { last = last; text = e.1; there = there } in
      all-append (HasRow s is_last helps notes) (if s.switches.compact then [] else blank a e.0 ∷ []) (map (piece a e.0) (upto (length (lines e.1))))
      (cond_both s.switches.compact [] (blank a e.0 ∷ []) All (λ _. tt) (λ open_form. ((open_form, has), tt)))
      (all-map (HasRow s is_last helps notes) (piece a e.0) (upto (length (lines e.1)))
      (all-range (λ p. HasRow s is_last helps notes (piece a e.0 p)) 0 (length (lines e.1)) (λ j less. (has, omega arith)))))
      (all-numbered (λ e. slice_get texts e.0 ≡ Some e.1) texts (λ k x e. e))

  rows-had : All (rows s is_last helps notes)
  unfolding rows
  rows-had =
      let compact = s.switches.compact in
      let P = HasRow s is_last helps notes in
      let top = if compact then [] else spacer ∷ [] in
      let lines = joined (line_rows s) (group_lines s) in
      let texts = if is_last then asides compact help helps ++ asides compact note notes else [] in
      let end = if compact then [] else tail ∷ [] in (
        tt,
        all-append P (top ++ lines ++ texts) end
            (all-append P (top ++ lines) texts
            (all-append P top lines (cond_both compact [] (spacer ∷ []) All (λ _. tt) (λ open_form. (open_form, tt)))
            (all-joined P (HasLine s) (line_rows s) (group_lines s) line-has (all-group-lines (HasLine s) s (λ l low high. (low, high)))))
            (cond_both is_last (asides compact help helps ++ asides compact note notes) [] All
            (λ last. all-append P (asides compact help helps) (asides compact note notes) (aside-has help last) (aside-has note last)) (λ _. tt)))
            (cond_both compact [] (tail ∷ []) All (λ _. tt) (λ open_form. (open_form, tt))),
      )

  -- ---- and each that it has is there

  abbrev top_rows : List Row
  top_rows = if s.switches.compact then [] else spacer ∷ []

  abbrev all_lines : List Row
  all_lines = joined (line_rows s) (group_lines s)

  abbrev all_asides : List Row
  all_asides = if is_last then asides s.switches.compact help helps ++ asides s.switches.compact note notes else []

  abbrev end_rows : List Row
  end_rows = if s.switches.compact then [] else tail ∷ []

  abbrev first_rows : List Row
  first_rows = group_header ∷ top_rows

  of-front : (x : Row) → Has (first_rows ++ all_lines) x → Has (rows s is_last helps notes) x
  unfolding rows
  of-front x h = has-front (first_rows ++ all_lines ++ all_asides) end_rows x (has-front (first_rows ++ all_lines) all_asides x h)

  of-line : (l : ℕ) (x : Row) → HasLine s l → Has (line_rows s l) x → Has (rows s is_last helps notes) x
  of-line l x line h =
      of-front x (has-back first_rows all_lines x
      (has-joined (line_rows s) (group_lines s) _ l x (group-line-at s l line.0 line.1) h))

  of-aside : (x : Row) → Has all_asides x → Has (rows s is_last helps notes) x
  unfolding rows
  of-aside x h = has-front (first_rows ++ all_lines ++ all_asides) end_rows x (has-back (first_rows ++ all_lines) all_asides x h)

  of-kind : (a : Aside) (x : Row) → is_last ≡ true → Has (asides s.switches.compact a (asides_of a helps notes)) x → Has all_asides x
  of-kind help x last h = rw last (has-front (asides s.switches.compact help helps) _ x h)
  of-kind note x last h = rw last (has-back (asides s.switches.compact help helps) _ x h)

  of-text : (a : Aside) (k : ℕ) (x : Row) (h : HasAside s is_last helps notes a k) → Has (aside_rows s.switches.compact a (k, h.text)) x
      → Has (rows s is_last helps notes) x
  unfolding asides
  of-text a k x h has =
      of-aside x (of-kind a x h.last
      (has-joined (aside_rows s.switches.compact a) (enumerate_from 0 (asides_of a helps notes)) k (k, h.text) x (numbered-at _ k h.text h.there) has))

  -- a run of hidden lines begins there
  no-later : (l : ℕ) → BeginsHidden s l → (nat_lt (first_line s) l && is_hidden_line s (l - 1)) ≡ false
  no-later l b = elim b.first [
    | inl same ↦ and_left _ _ (le-ltb (first_line s) l (omega arith))
    | inr seen ↦ and_right _ _ seen
  ]

  -- a line with underlines of its own has a label, so it is shown, and has their row
  lone-there : (l r : ℕ) → HasUnderlines s l r → Has (rows s is_last helps notes) (alternate l r)
  unfolding lone_rows line_rows
  lone-there l r h =
      let seen = lone-shown s l h.lone in
      let on = h.lone in
      let same = h.behind in
      of-line l (alternate l r) h.line (rw (seen, same) (has-later (source l) _ (alternate l (length (line_labels s.labels l)))
      (has-back (all_label_rows s l) (lone_rows s l) (alternate l (length (line_labels s.labels l)))
      (rw on (has-first (alternate l (length (line_labels s.labels l))) [])))))

  row-there : (x : Row) → HasRow s is_last helps notes x → Has (rows s is_last helps notes) x
  unfolding rows line_rows label_rows aside_rows
  row-there group_header h = of-front group_header (has-first group_header (top_rows ++ all_lines))
  row-there spacer h =
      of-front spacer (has-front first_rows all_lines spacer (has-later group_header top_rows spacer (rw h (has-first spacer []))))
  row-there (source l) h = of-line l (source l) h.0 (let seen = h.1 in rw seen (has-first (source l) _))
  row-there (alternate l r) (inr h) = lone-there l r h
  row-there (alternate l r) (inl h) =
      let m = h.1 in
      let seen = shown-by-label s l r m.label m.there in
      let open_form = h.0 in
      let message = m.message in
      let block = enumerate_from 0 (line_labels s.labels l) in
      let here : Has (label_rows s.switches.compact l (r, m.label)) (alternate l r) = rw (message, open_form) (has-first (alternate l r) _) in
      of-line l (alternate l r) m.line (rw seen (has-later (source l) _ (alternate l r)
      (has-front (all_label_rows s l) (lone_rows s l) (alternate l r)
      (has-joined (label_rows s.switches.compact l) block r (r, m.label) (alternate l r) (numbered-at _ r m.label m.there) here))))
  row-there (arrow l r) h = of-line l (arrow l r) h.line (has-place _ _ (arrow-there s l r h.label h.there h.message))
  row-there (gap l) h =
      let b = h.0 in
      let hidden = b.hidden in
      let first = no-later l b in
      let inside = h.1 in
      of-line l (gap l) b.line (rw (hidden, first, inside) (has-first (gap l) []))
  row-there (bare l) h =
      let b = h.1 in
      let hidden = b.hidden in
      let first = no-later l b in
      let out = h.2 in
      let open_form = h.0 in
      of-line l (bare l) b.line (rw (hidden, first, out, open_form) (has-first (bare l) []))
  row-there (blank a k) h =
      let open_form = h.0 in of-text a k (blank a k) h.1 (has-front (if s.switches.compact then [] else blank a k ∷ []) _ _ (rw open_form (has-first (blank a k) [])))
  row-there (piece a k p) h =
      let aside = h.0 in
      let n : ℕ = length (lines aside.text) in
      let z : 0 + p ≡ p = omega arith in
      of-text a k (piece a k p) aside (has-back (if s.switches.compact then [] else blank a k ∷ []) _ _
      (has-map (piece a k) (upto n) p p (range-at 0 n p h.1 ∙ ap Some z)))
  row-there tail h = has-back (first_rows ++ all_lines ++ all_asides) end_rows tail (rw h (has-first tail []))

  -- ---- the laws

  pub row-members : (x : Row) → (Contains (rows s is_last helps notes) x → HasRow s is_last helps notes x)
      × (HasRow s is_last helps notes x → Contains (rows s is_last helps notes) x)
  row-members x = (
    λ c. let h = has-place _ x c in all-at (HasRow s is_last helps notes) _ h.place x h.there rows-had,
    λ h. contained _ x (row-there x h),
  )

  pub only-rows : (xs : List Row) → AllPairs (λ a b. IsTrue (before a b)) xs
      → ((x : Row) → (Contains xs x → HasRow s is_last helps notes x) × (HasRow s is_last helps notes x → Contains xs x))
      → xs ≡ rows s is_last helps notes
  only-rows xs pairs members =
      only-list (λ a b. IsTrue (before a b)) (λ x h. true≢false (sym h ∙ before-irreflexive x)) before-chain xs (rows s is_last helps notes)
      (increasing-from _ xs pairs) (increasing-from _ _ (rows-ordered s is_last helps notes))
      (λ x h. row-there x ((members x).0 (contained xs x h)))
      (λ x h. has-place xs x ((members x).1 (all-at (HasRow s is_last helps notes) _ h.place x h.there rows-had)))
