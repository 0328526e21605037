use Rattle.std.proofs.Common.{◌≡◌, ◌∙◌, ℕ, ◌<◌, ◌≤◌, drop, length, slice_index, sym, ap, subst, refl, arith}
use Rattle.ariadne_picture.specs.declared.cell.Paint.{Paint}
use Rattle.ariadne_picture.specs.declared.switches.Switches.{Switches}
use Rattle.ariadne_picture.specs.declared.sight.Sight.TheVariants.{Unseen}
use Rattle.ariadne_picture.specs.Columns.{shown, sight_in, sight_of}
use Rattle.ariadne_layout.specs.Cuts.{end_of}
use Rattle.ariadne_layout.specs.Tables.{position_paint, shown_at}
use Rattle.ariadne_render.specs.Pages.{PageFields}
use Rattle.ariadne_render.proofs.Drawn.{draws_places_none, page_kept}
use Rattle.ariadne_render.specs.Counted.{IsCounted}
use Rattle.ariadne_render.specs.ShownTexts.{place_in}
use Rattle.ariadne_render.proofs.CutRows.{draws_unseen}
use Rattle.ariadne_render.proofs.SeenPlaces.{sight-in}
use Rattle.ariadne_render.proofs.ShownRows.{draws_all, draws_place}
use Rattle.ariadne_render.proofs.shown.push_cut.Goals as goal

-- nothing is written yet
pub loop-seen-init : goal.loop-seen-init
unfolding end_of
loop-seen-init c =
    let y = c.args.layout.now in
    let s = c.args.pen.now.page.switches in
    let f : ℕ → Paint = λ k. position_paint (shown_at c.args.paints.now k) in (
      omega arith,
      omega arith,
      draws_places_none c.args.pen.now (place_in s y f),
      λ k h. refl,
      c.new-counted.ensures.counted s y c.shown.ensures,
      omega (arith, c.new-counted.ensures.place),
    )

-- what is written next has a place
pub push_seen-requires : goal.push_seen-requires
push_seen-requires c =
    let next = c.in-Some.ensures.seen.0 in
    let len = c.shown_len-len.ensures in
    record {
      within = omega (arith, c.in-Some.ensures.seen.1, len);
      later = omega (arith, next.onward, c.loop-seen.invariant.5);
    }

-- a turn passes a place
pub loop-seen-smaller : goal.loop-seen-smaller
loop-seen-smaller c =
    let next = c.in-Some.ensures.seen.0 in
    let len = c.shown_len-len.ensures in
    omega (arith, next.onward, c.in-Some.ensures.seen.1, len)

-- a turn passes the places of which nothing is seen, and writes one of which something is
pub loop-seen-preserved : goal.loop-seen-preserved
loop-seen-preserved c =
    let pen = c.args.pen.now in
    let y = c.args.layout.now in
    let paints = c.args.paints.now in
    let parts = c.parts-parts.result.now in
    let s = pen.page.switches in
    let r = c.loop-seen.pen.page.switches in
    let n = c.loop-seen.place in
    let k = c.in-Some.seen.place in
    let next = c.in-Some.ensures.seen.0 in
    let len = c.shown_len-len.ensures in
    let f : ℕ → Paint = λ j. position_paint (shown_at paints j) in
    let below : k < length (shown y) = omega (arith, c.in-Some.ensures.seen.1, len) in
    let sight : (j : ℕ) → j < length (shown y) → sight_of y j ≡ sight_in parts j =
    λ j l. sight-in y parts (length (shown y)) j c.parts-parts.ensures.sights c.requires.cut l in
    let kept : r ≡ s = ap (λ (q : PageFields). q.switches) (page_kept pen c.loop-seen.pen _ c.loop-seen.invariant.2) in
    let seen : (j : ℕ) → k ≤ j → shown_at (drop c.stretch_at-number.result paints) j ≡ shown_at paints j =
    λ j h. c.stretch_at-number.ensures.seen j h ∙ c.loop-seen.invariant.3 j (omega (arith, next.onward, h)) in
    let paint : c.stretch_paint.result ≡ position_paint (shown_at paints k) =
    c.stretch_paint.ensures k (λ x h. c.stretch_at-number.ensures.reaches x h) ∙ ap position_paint (seen k (omega arith)) in
    let drawn = c.in_ok-push_seen.ensures.drawn (subst (λ (q : Switches). IsCounted q y c.loop-seen.counted) (sym kept) c.loop-seen.invariant.4)
    (sight k below ∙ next.sight) in
    let place = c.in_ok-push_seen.ensures.place in
    let before = draws_unseen pen c.loop-seen.pen y f n k next.onward (λ j h l. sight j (omega (arith, l, below)) ∙ next.unseen j h l) c.loop-seen.invariant.2 in (
      omega (arith, below),
      omega (arith, next.passed),
      draws_place pen c.loop-seen.pen c.push_seen.new.pen y f k k (slice_index (shown y) k) c.stretch_paint.result before refl refl paint drawn.1,
      λ j h. seen j (omega (arith, h)),
      subst (λ (q : Switches). IsCounted q y c.push_seen.new.counted) kept drawn.0,
      omega (arith, place),
    )

-- behind the last nothing is seen
pub returns : goal.returns
returns c =
    let pen = c.args.pen.now in
    let y = c.args.layout.now in
    let parts = c.parts-parts.result.now in
    let len = c.shown_len-len.ensures in
    let f : ℕ → Paint = λ k. position_paint (shown_at c.args.paints.now k) in
    let unseen : (k : ℕ) → c.loop-seen.place ≤ k → k < length (shown y) → sight_of y k ≡ Unseen =
    λ k h l. sight-in y parts (length (shown y)) k c.parts-parts.ensures.sights c.requires.cut l
    ∙ c.next_seen.ensures.none c.in_default.is k h (omega (arith, l, len)) in
    draws_all pen c.loop-seen.pen y f (length (shown y)) refl
    (draws_unseen pen c.loop-seen.pen y f c.loop-seen.place (length (shown y)) c.loop-seen.invariant.0 unseen c.loop-seen.invariant.2)
