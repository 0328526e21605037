use Rattle.std.proofs.Common.{◌∙◌, sym}
use Rattle.std.specs.Str.{chars}
use Rattle.ariadne_edits.proofs.Cuts.{line_fitted, line_whole}
use Rattle.ariadne_edits.proofs.cut.push_line.Goals as goal

-- it is shown whole
pub returns-then-view-eq0 : goal.returns-then-view-eq0
returns-then-view-eq0 c =
    rw (line_whole c.args.view c.args.blanks (chars c.args.line.now) (chars c.args.other.now) c.if-view-eq0.true) c.push_body.ensures

-- or in a width
pub returns : goal.returns
returns c =
    let text = c.as_slice.ensures.value ∙ c.in_ok-text.ensures in
    let other = c.as_slice-2.ensures.value ∙ c.in_ok-other.ensures in
    rw (line_fitted c.args.view c.args.blanks (chars c.args.line.now) (chars c.args.other.now) c.if-view-eq0.false) (rw (sym text, sym other, sym c.usable_width-width.ensures.width) c.push_fitted.ensures)
