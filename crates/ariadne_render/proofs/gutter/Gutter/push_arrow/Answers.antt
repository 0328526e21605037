use Rattle.std.proofs.Common.{◌≡◌, sym, ap, ◌∙◌, ℕ}
use Rattle.std.proofs.lemmas.Bool.{cond-false, cond-true}
use Rattle.ariadne_picture.specs.declared.cell.Glyph.TheVariants.{Vbar}
use Rattle.ariadne_picture.specs.declared.cell.Ink.{Ink}
use Rattle.ariadne_picture.specs.Ranks.{is_inline}
use Rattle.ariadne_render.specs.Gutters.{arrow_row_ink, bars_ink, columns, columns_bytes, turn_row_ink}
use Rattle.ariadne_render.proofs.gutter.Gutter.push_arrow.Goals as goal

-- a label within the line has bars alone
pub returns-then-is_inline : goal.returns-then-is_inline
returns-then-is_inline c =
    let g = c.args.self.now in
    let x = c.args.own.now in
    let row : columns_bytes g.page (bars_ink Vbar g) (columns g) ≡ columns_bytes g.page (arrow_row_ink g x) (columns g) =
    ap (λ (f : ℕ → Ink). columns_bytes g.page f (columns g))
    (sym (cond-true (is_inline x.side) (bars_ink Vbar g) (turn_row_ink g x) (sym c.is_inline.ensures ∙ c.if-is_inline.true))) in
    rw row at c.push_bars.ensures

-- another has a column of the gutter
pub push_turn-requires : goal.push_turn-requires
push_turn-requires c = record {
  page = c.requires.page;
  column = c.requires.column (sym c.is_inline.ensures ∙ c.if-is_inline.false);
}

-- where its arrow turns
pub returns : goal.returns
returns c =
    let g = c.args.self.now in
    let x = c.args.own.now in
    let row : columns_bytes g.page (turn_row_ink g x) (columns g) ≡ columns_bytes g.page (arrow_row_ink g x) (columns g) =
    ap (λ (f : ℕ → Ink). columns_bytes g.page f (columns g))
    (sym (cond-false (is_inline x.side) (bars_ink Vbar g) (turn_row_ink g x) (sym c.is_inline.ensures ∙ c.if-is_inline.false))) in
    rw row at c.push_turn.ensures
