use Rattle.std.proofs.Common.{◌<◌, length, sym, subst}
use Rattle.std.specs.Prelude.{IfSome, Option, OnOk}
use Rattle.ariadne_picture.specs.declared.label_info.LineLabel.{LineLabel}
use Rattle.ariadne_render.specs.Pages.{Adds}
use Rattle.ariadne_render.specs.Gutters.{columns, columns_bytes, source_row_ink}
use Rattle.ariadne_render.proofs.gutter.Gutter.push_source.Goals as goal

-- without margin label there are bars alone
pub returns-in-None : goal.returns-in-None
returns-in-None c =
    let g = c.args.self.now in
    subst (λ (m : Option LineLabel). OnOk c.push_bars.result (Adds c.args.pen.now c.push_bars.new.pen
    (columns_bytes g.page (source_row_ink g m) (columns g)))) (sym c.in-None.is) c.push_bars.ensures

-- a margin label has a column of the gutter
pub push_margin_row-requires : goal.push_margin_row-requires
push_margin_row-requires c = record {
  page = c.requires.page;
  column = subst (λ (m : Option LineLabel). IfSome m (λ x. x.gutter_column < length c.args.self.now.bars)) c.in-Some.is c.requires.column;
}

-- where its stroke begins
pub returns-in-Some : goal.returns-in-Some
returns-in-Some c =
    let g = c.args.self.now in
    subst (λ (m : Option LineLabel). OnOk c.push_margin_row.result (Adds c.args.pen.now c.push_margin_row.new.pen
    (columns_bytes g.page (source_row_ink g m) (columns g)))) (sym c.in-Some.is) c.push_margin_row.ensures
