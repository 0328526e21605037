use Rattle.std.proofs.Common.{◌∙◌, slice_index, subst}
use Rattle.std.proofs.lemmas.Result.{on_ok_weaker}
use Rattle.ariadne_picture.specs.Columns.{shown}
use Rattle.ariadne_render.specs.Pages.{Draws}
use Rattle.ariadne_render.proofs.Drawn.{draws_none}
use Rattle.ariadne_render.proofs.ShownRows.{marked_place, seen_place, unseen_place}
use Rattle.ariadne_render.proofs.shown.push_seen.Goals as goal

-- a place that is seen shows its character
pub returns-in-Seen-clause-drawn : goal.returns-in-Seen-clause-drawn
returns-in-Seen-clause-drawn c = λ h sight.
    let pen = c.args.pen.now in
    let y = c.args.layout.now in
    let k = c.args.seen.now.place in
    on_ok_weaker c.push_place.result
    (λ d. (
      d.0,
      subst (Draws pen c.push_place.new.pen)
          (seen_place pen.page.switches c.args.paint y k (slice_index (shown y) k) (sight ∙ c.in-Seen.is)) d.1,
    ))
    (c.push_place.ensures.drawn h)

-- a mark is one cell, and counts nothing
pub returns-in-Marked-clause-drawn : goal.returns-in-Marked-clause-drawn
returns-in-Marked-clause-drawn c = λ h sight.
    let pen = c.args.pen.now in
    let y = c.args.layout.now in
    let k = c.args.seen.now.place in
    on_ok_weaker c.push_mark.result
    (λ d. (
      h,
      subst (Draws pen c.push_mark.new.pen)
          (marked_place pen.page.switches c.args.paint y k (slice_index (shown y) k) (sight ∙ c.in-Marked.is)) d,
    ))
    c.push_mark.ensures

-- a place that is not seen shows nothing
pub returns-in-Unseen-clause-drawn : goal.returns-in-Unseen-clause-drawn
returns-in-Unseen-clause-drawn c = λ h sight.
    let pen = c.args.pen.now in
    let y = c.args.layout.now in
    let k = c.args.seen.now.place in
    (h, subst (Draws pen pen) (unseen_place pen.page.switches c.args.paint y k (slice_index (shown y) k) (sight ∙ c.in-Unseen.is)) (draws_none pen))
