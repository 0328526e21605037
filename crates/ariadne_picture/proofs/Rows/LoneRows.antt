-- Where no label of a line has a message: the row with their underlines alone is its whole block.
use Rattle.std.proofs.Common.{◌≡◌, ℕ, ◌+◌, Bool, true, false, not, ◌&&◌, List, [], ◌∷◌, ◌++◌, length, Some, refl, sym, ap, ◌∙◌, arith, inl, inr}
use Rattle.std.specs.Prelude.{slice_get, is_some, nat_lt, ◌==◌}
use Rattle.std.specs.List.{list_any, enumerate_from, position_or_len}
use Rattle.std.proofs.lemmas.Bool.{cases_Bool, cond-true, cond-false, and_left, and_right, ne_eqb, not-true, true≢false}
use Rattle.std.proofs.lemmas.List.{append-nil}
use Rattle.ariadne_picture.specs.declared.label_info.LineLabel.{LineLabel}
use Rattle.ariadne_picture.specs.Lists.{joined}
use Rattle.ariadne_picture.specs.Ranks.{Sheet, line_labels, margin_label, is_hidden_line, is_unlabelled}
use Rattle.ariadne_picture.specs.Rows.{alternate, label_rows, is_lone, lone_rows}
use Rattle.ariadne_picture.proofs.Rows.NearLines.{shown-with}
use Rattle.ariadne_picture.proofs.Lists.Elements.{list_any-true}
use Rattle.ariadne_picture.proofs.Rows.RowOrder.{all_label_rows, shown_rows}

two : (b c : Bool) → (b && c) ≡ true → (b ≡ true) × (c ≡ true)
two true c h = (refl, h)
two false c h = absurd (true≢false (sym h))

-- a line label has a message
abbrev pub speaks : LineLabel → Bool
speaks x = x.info.has_message

-- labels without a message have no rows
silent-rows : (compact : Bool) (l a : ℕ) (xs : List LineLabel) → list_any speaks xs ≡ false
    → joined (label_rows compact l) (enumerate_from a xs) ≡ []
unfolding joined label_rows
silent-rows compact l a [] h = refl
silent-rows compact l a (x ∷ xs) h = elim (cases_Bool x.info.has_message) [
  | inl on ↦ let no : true ≡ false = rw on at h in absurd (true≢false no)
  | inr off ↦ let rest : list_any speaks xs ≡ false = rw off at h in rw off (silent-rows compact l (a + 1) xs rest)
]

-- and none of them is found
silent-length : (xs : List LineLabel) → list_any speaks xs ≡ false → position_or_len speaks xs ≡ length xs
silent-length [] h = refl
silent-length (x ∷ xs) h = elim (cases_Bool x.info.has_message) [
  | inl on ↦ let no : true ≡ false = rw on at h in absurd (true≢false no)
  | inr off ↦
      let rest : list_any speaks xs ≡ false = rw off at h in
      let e = silent-length xs rest in
      rw off (omega (arith, e))
]

module _ (s : Sheet) (l : ℕ) where
  -- what such a line tells
  pub record IsLone : Type 0 where
    pub underlined : s.switches.underlines ≡ true
    pub loose : s.switches.compact ≡ false
    pub silent : list_any speaks (line_labels s.labels l) ≡ false

  pub lone : is_lone s l ≡ true → IsLone
  unfolding is_lone
  lone h =
      let a = two _ _ h in
      let b = two _ _ a.0 in
      let c = two _ _ b.0 in
      let d = two _ _ c.0 in
      record { underlined = d.1; loose = not-true _ c.1; silent = not-true _ a.1 }

  -- a line with a message is none
  pub not-lone : list_any speaks (line_labels s.labels l) ≡ true → is_lone s l ≡ false
  unfolding is_lone
  not-lone h = and_right _ _ (ap not h)

  pub label-not-lone : (r : ℕ) (x : LineLabel) → slice_get (line_labels s.labels l) r ≡ Some x → x.info.has_message ≡ true → is_lone s l ≡ false
  label-not-lone r x e m = not-lone (list_any-true speaks (line_labels s.labels l) r x e m)

  -- the two kinds of block
  pub label-block : is_lone s l ≡ false → shown_rows s l ≡ all_label_rows s l
  unfolding shown_rows lone_rows
  label-block off =
      ap (λ t. all_label_rows s l ++ t) (cond-false (is_lone s l) (alternate l (length (line_labels s.labels l)) ∷ []) [] off)
      ∙ append-nil (all_label_rows s l)

  pub lone-block : is_lone s l ≡ true → shown_rows s l ≡ alternate l (length (line_labels s.labels l)) ∷ []
  unfolding shown_rows lone_rows
  lone-block on =
      ap (λ t. t ++ lone_rows s l) (silent-rows s.switches.compact l 0 (line_labels s.labels l) (lone on).silent)
      ∙ cond-true (is_lone s l) (alternate l (length (line_labels s.labels l)) ∷ []) [] on

  pub lone-rank : is_lone s l ≡ true → position_or_len speaks (line_labels s.labels l) ≡ length (line_labels s.labels l)
  lone-rank on = silent-length (line_labels s.labels l) (lone on).silent

  -- such a line is shown
  pub lone-shown : is_lone s l ≡ true → is_hidden_line s l ≡ false
  unfolding is_lone is_unlabelled
  lone-shown h = shown-with s l (some (line_labels s.labels l) (two _ _ (two _ _ h).0).1)
    where
      some : (xs : List LineLabel) → list_any (λ (x : LineLabel). nat_lt x.info.start x.info.end) xs ≡ true
          → ((length xs == 0) && not (is_some (margin_label s.labels l))) ≡ false
      some [] t = absurd (true≢false (sym t))
      some (x ∷ xs) t = and_left _ _ (ne_eqb (length (x ∷ xs)) 0 (λ e. omega arith))
