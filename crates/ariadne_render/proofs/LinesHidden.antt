-- The row in place of hidden lines, and the labels that may hold a character of a line.
use Rattle.std.proofs.Common.{◌≡◌, ◌∙◌, ℕ, ◌-◌, true, false, ◌&&◌, [], ◌∷◌, nat_le, nat_lt, refl, sym}
use Rattle.std.specs.Prelude.{if◌then◌else◌}
use Rattle.std.proofs.lemmas.Bool.{le-leb, and_from, not-true}
use Rattle.ariadne_picture.specs.Ranks.{Sheet, first_line, is_hidden_line}
use Rattle.ariadne_picture.specs.Rows.{gap, bare, line_rows, is_inside}
use Rattle.ariadne_picture.specs.Strokes.{holds}
use Rattle.ariadne_picture.proofs.Lists.ListFacts.{all-weaker}
use Rattle.ariadne_layout.specs.SnippetLabels.{HoldersTouch, touches}
use Rattle.ariadne_layout.specs.Snippets.{AreOverLines, IsOverLines}
use Rattle.ariadne_render.specs.DrawnLines.{begins_run}

-- a label over lines that holds a character of one touches it
pub holders-touch : (s : Sheet) (l : ℕ) → AreOverLines s.lines s.labels → HoldersTouch s l
unfolding touches
holders-touch s l over = λ o low high.
    all-weaker (IsOverLines s.lines) (λ a. holds a o ≡ true → touches l a ≡ true) s.labels
    (λ a h t. let p = h.holders l o low high t in
    and_from (nat_le a.start_line l) (nat_le l a.end_line) (le-leb a.start_line l p.0) (le-leb l a.end_line p.1)) over

module _ (s : Sheet) (l : ℕ) (hidden : is_hidden_line s l ≡ true) (run : begins_run s l ≡ true) where
  -- the first of a run of hidden lines has the row in their place
  run-rows : line_rows s l ≡ (if is_inside s l then gap l ∷ [] else if s.switches.compact then [] else bare l ∷ [])
  unfolding line_rows begins_run
  run-rows =
      let first : (nat_lt (first_line s) l && is_hidden_line s (l - 1)) ≡ false =
      not-true (nat_lt (first_line s) l && is_hidden_line s (l - 1)) run in
      rw (hidden, first) refl

  -- inside a label
  pub run-gap : is_inside s l ≡ true → gap l ∷ [] ≡ line_rows s l
  run-gap i = sym (run-rows ∙ rw i refl)

  -- outside all, in the compact form
  pub run-none : is_inside s l ≡ false → s.switches.compact ≡ true → [] ≡ line_rows s l
  run-none i c = sym (run-rows ∙ rw (i, c) refl)

  -- outside all
  pub run-bare : is_inside s l ≡ false → s.switches.compact ≡ false → bare l ∷ [] ≡ line_rows s l
  run-bare i c = sym (run-rows ∙ rw (i, c) refl)
