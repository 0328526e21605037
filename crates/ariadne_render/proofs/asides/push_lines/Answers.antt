use Rattle.std.proofs.Common.{◌≡◌, ◌+◌, ◌<◌, ◌∙◌, [], ◌∷◌, ◌++◌, length, map, slice_index_or, refl, sym, subst}
use Rattle.std.specs.Str.Lines.{lines}
use Rattle.std.proofs.lemmas.List.{length_push}
use Rattle.std.proofs.lemmas.List.FromFn.{length-enumerate_from}
use Rattle.std.proofs.lemmas.Iterator.Consumers.{YieldsList-from_enumerate, YieldsList-at, YieldsList-turn, YieldsList-end}
use Rattle.std.proofs.lemmas.Iterator.Splits.{YieldsList-from_lines}
use Rattle.ariadne_base.specs.Locations.{upto}
use Rattle.ariadne_picture.specs.Pieces.{aside_line, row_pieces}
use Rattle.ariadne_picture.specs.Rows.{piece}
use Rattle.ariadne_layout.proofs.Listing.{numbered-turn}
use Rattle.ariadne_render.specs.Pages.{DrawsRow}
use Rattle.ariadne_render.proofs.Drawn.{draws_rows_none, rows_page}
use Rattle.ariadne_render.specs.AsideKinds.{aside_of}
use Rattle.ariadne_render.specs.RowTexts.{rows_of}
use Rattle.ariadne_render.specs.Writers.{WritesRows}
use Rattle.ariadne_render.proofs.AsideRows.{draws_line}
use Rattle.ariadne_render.proofs.KnownSnippets.{behind-kept}
use Rattle.ariadne_render.proofs.asides.push_lines.Given.{Over}
use Rattle.ariadne_render.proofs.asides.push_lines.Goals.{In-None, In-Some}
use Rattle.ariadne_render.proofs.asides.push_lines.Goals as goal

-- a turn is at the next number, and at its line
turn : (g : Over) (c : In-Some g)
    → (length c.loop-index.yielded < length (lines c.args.text.now)) × (c.in-Some.index ≡ length c.loop-index.yielded)
    × (c.in-Some.line.now ≡ slice_index_or (lines c.args.text.now) (length c.loop-index.yielded) [])
turn g c =
    let read = YieldsList-from_lines {s = c.lines.result} c.args.text.now c.lines.ensures.rest in
    let source = YieldsList-at c.enumerate-index-items.ensures.source read in
    let numbered = YieldsList-from_enumerate {s = c.enumerate-index-items.result} source c.enumerate-index-items.ensures.count in
    let whole = YieldsList-at c.into_iter-index-iterator.ensures.into_iter_gives numbered in
    let t = YieldsList-turn whole c.loop-index.yielded _ c.loop-index.yielded_by _ _ _ c.in-Some.is c.next.ensures.steps in
    numbered-turn (lines c.args.text.now) (length c.loop-index.yielded) c.in-Some.index c.in-Some.line.now [] t.0 t.1

-- the end comes behind the last line
ended : (g : Over) (c : In-None g) → length c.loop-index.yielded ≡ length (lines c.args.text.now)
ended g c =
    let read = YieldsList-from_lines {s = c.lines.result} c.args.text.now c.lines.ensures.rest in
    let source = YieldsList-at c.enumerate-index-items.ensures.source read in
    let numbered = YieldsList-from_enumerate {s = c.enumerate-index-items.result} source c.enumerate-index-items.ensures.count in
    let whole = YieldsList-at c.into_iter-index-iterator.ensures.into_iter_gives numbered in
    let e = YieldsList-end whole c.loop-index.yielded _ c.loop-index.yielded_by _ _ c.in-None.is c.next.ensures.steps in
    e.1 ∙ length-enumerate_from 0 (lines c.args.text.now)

-- no line is written
pub loop-index-init : goal.loop-index-init
loop-index-init g c = record { drawn = draws_rows_none c.args.writer.now.pen; bars = refl }

-- ---- the next line

-- the gutter is as it was
pub push_line-requires-clause-at : goal.push_line-requires-clause-at
push_line-requires-clause-at g c = behind-kept c.args.snippet.now c.args.writer.now c.loop-index.writer _ c.requires.at c.loop-index.invariant

-- it is that of the text
pub push_line-requires-clause-line : goal.push_line-requires-clause-line
unfolding aside_line
push_line-requires-clause-line g c =
    let at = turn g (goal.at.push_line-requires-clause-line g c).In-Some in
    at.2 ∙ (λ i. slice_index_or (lines (c.requires.text i)) (sym at.1 i) [])

-- a turn writes one row more
pub loop-index-preserved : goal.loop-index-preserved
loop-index-preserved g c =
    let v = c.args.snippet.now in
    let a = aside_of c.args.kind in
    let k = c.args.number in
    let pen = c.args.writer.now.pen in
    let before = c.loop-index.writer.pen in
    let new = c.push_line.new.writer.pen in
    let n = length c.loop-index.yielded in
    let e : length (c.loop-index.yielded ++ (c.in-Some.index, c.in-Some.line) ∷ []) ≡ n + 1 = length_push _ _ in
    let at = turn g (goal.at.loop-index-preserved g c).In-Some in
    let kept = rows_page pen before _ c.loop-index.invariant.drawn in
    let row = subst (λ m. DrawsRow before new (row_pieces v.texts before.page.number_width v.section (piece a k m))) at.1
    c.in_ok-push_line.ensures.drawn in
    subst (λ m. WritesRows c.args.writer.now c.push_line.new.writer (rows_of pen.page v (map (piece a k) (upto m)))) (sym e)
    (record {
      drawn = draws_line pen before new v.texts v.section a k n kept c.loop-index.invariant.drawn row;
      bars = c.in_ok-push_line.ensures.bars ∙ c.loop-index.invariant.bars;
    })

-- the last turn was at the last line
pub returns : goal.returns
returns g c =
    let v = c.args.snippet.now in
    subst (λ m. WritesRows c.args.writer.now c.loop-index.writer
    (rows_of c.args.writer.now.pen.page v (map (piece (aside_of c.args.kind) c.args.number) (upto m))))
    (ended g (goal.at.returns g c).In-None) c.loop-index.invariant
