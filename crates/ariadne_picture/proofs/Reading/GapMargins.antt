-- The margins of gap rows end in a broken bar, and those of the rows of line labels do not.
use Rattle.std.proofs.Common.{◌≡◌, ℕ, ◌+◌, ◌-◌, Bool, true, false, List, ◌++◌, length, refl, ap, ◌∙◌, arith}
use Rattle.std.specs.Prelude.{drop}
use Rattle.std.proofs.lemmas.List.{drop_at, length-append}
use Rattle.ariadne_picture.specs.declared.switches.CharSet.{CharSet}
use Rattle.ariadne_picture.specs.declared.switches.CharSet.TheVariants.{Unicode, Ascii}
use Rattle.ariadne_picture.specs.declared.cell.Glyph.TheVariants.{Vbar, VbarGap}
use Rattle.ariadne_picture.specs.Rows.{alternate, arrow, gap}
use Rattle.ariadne_picture.specs.Cells.{glyph_code}
use Rattle.ariadne_picture.specs.Pieces.{glyph_text, margin_text, spaces}
use Rattle.ariadne_picture.specs.Placing.Cells.{is_text}
use Rattle.ariadne_picture.specs.Placing.GutterBars.{ends_in}
use Rattle.ariadne_picture.proofs.Lists.Elements.{pointwise-same}

module _ (set : CharSet) (w display_offset : ℕ) where
  -- a text ends in a broken bar
  abbrev ends_broken : List ℕ → Bool
  ends_broken t = ends_in t (glyph_text set VbarGap)

  -- a text behind blanks, with as many bytes as a broken bar, is one or not
  ends-behind : (n : ℕ) (t : List ℕ) → length t ≡ length (glyph_text set VbarGap)
      → ends_broken (spaces n ++ t) ≡ is_text t (glyph_text set VbarGap)
  unfolding ends_in
  ends-behind n t e =
      let end = glyph_text set VbarGap in
      let z : length (spaces n ++ t) - length end ≡ length (spaces n) = omega (arith, length-append (spaces n) t, e) in
      ap (λ k. is_text (drop k (spaces n ++ t)) end) z ∙ ap (λ t. is_text t end) (drop_at (spaces n) t _ refl)

  -- a bar has as many and is none
  bar-margin : (n : ℕ) → ends_broken (spaces n ++ glyph_text set Vbar) ≡ false
  unfolding glyph_text glyph_code lib.Utf8.encode
  bar-margin n = ends-behind n (glyph_text set Vbar) (as_long set) ∙ other set
    where
      as_long : (set : CharSet) → length (glyph_text set Vbar) ≡ length (glyph_text set VbarGap)
      as_long Unicode = refl
      as_long Ascii = refl

      other : (set : CharSet) → is_text (glyph_text set Vbar) (glyph_text set VbarGap) ≡ false
      other Unicode = refl
      other Ascii = refl

  -- the margins of these rows are blanks and a bar, or a broken bar
  pub alternate-no-gap : (l r : ℕ) → ends_broken (margin_text set w display_offset (alternate l r)) ≡ false
  unfolding margin_text
  alternate-no-gap l r = bar-margin (w + 1)

  pub arrow-no-gap : (l r : ℕ) → ends_broken (margin_text set w display_offset (arrow l r)) ≡ false
  unfolding margin_text
  arrow-no-gap l r = bar-margin (w + 1)

  pub gap-margin : (l : ℕ) → ends_broken (margin_text set w display_offset (gap l)) ≡ true
  unfolding margin_text
  gap-margin l = ends-behind (w + 1) _ refl ∙ pointwise-same (glyph_text set VbarGap)
