use Rattle.std.proofs.Common.{◌≡◌, ℕ, ◌+◌, ◌<◌, ◌≤◌, drop, sym, arith, [], ◌∷◌, ◌++◌, length, slice_index, refl, subst, ap, ◌∙◌}
use Rattle.std.proofs.lemmas.List.{length_push}
use Rattle.std.proofs.lemmas.List.FromFn.{length-enumerate_from}
use Rattle.std.proofs.lemmas.Iterator.{YieldsList-from_chars}
use Rattle.std.proofs.lemmas.Iterator.Consumers.{YieldsList-from_enumerate, YieldsList-at, YieldsList-turn, YieldsList-end}
use Rattle.std.specs.Str.{chars}
use Rattle.ariadne_picture.specs.declared.switches.Switches.{Switches}
use Rattle.ariadne_picture.specs.Columns.{shown}
use Rattle.ariadne_layout.specs.Tables.{position_paint, shown_at}
use Rattle.ariadne_layout.proofs.Listing.{numbered-turn}
use Rattle.ariadne_render.specs.Pages.{Draws, PageFields}
use Rattle.ariadne_render.proofs.Drawn.{draws_places_none, page_kept}
use Rattle.ariadne_render.specs.ShownTexts.{place_in}
use Rattle.ariadne_render.specs.Counted.{IsCounted}
use Rattle.ariadne_render.proofs.ShownRows.{draws_all, draws_place, whole_pieces}
use Rattle.ariadne_render.proofs.shown.push_stretches.Goals as goal

-- a turn is at the next place, and at its character
turn : (c : goal.In_ok-push_char)
    → (length c.loop-index.yielded < length (shown c.args.layout.now)) × (c.in-Some.index ≡ length c.loop-index.yielded)
    × (c.in-Some.c ≡ slice_index (shown c.args.layout.now) (length c.loop-index.yielded))
turn c =
    let text = c.shown-text.result.now in
    let read = YieldsList-from_chars {s = c.chars.result} text c.shown-text.utf8 c.chars.ensures.rest in
    let source = YieldsList-at c.enumerate-index-items.ensures.source read in
    let numbered = YieldsList-from_enumerate {s = c.enumerate-index-items.result} source c.enumerate-index-items.ensures.count in
    let whole = YieldsList-at c.into_iter-index-iterator.ensures.into_iter_gives numbered in
    let t = YieldsList-turn whole c.loop-index.yielded _ c.loop-index.yielded_by _ _ _ c.in-Some.is c.next.ensures.steps in
    let at = numbered-turn (chars text) (length c.loop-index.yielded) c.in-Some.index c.in-Some.c 0 t.0 t.1 in
    rw c.shown-text.ensures at at

-- the end comes behind the last shown place
ended : (c : goal.In-None) → length c.loop-index.yielded ≡ length (shown c.args.layout.now)
ended c =
    let text = c.shown-text.result.now in
    let read = YieldsList-from_chars {s = c.chars.result} text c.shown-text.utf8 c.chars.ensures.rest in
    let source = YieldsList-at c.enumerate-index-items.ensures.source read in
    let numbered = YieldsList-from_enumerate {s = c.enumerate-index-items.result} source c.enumerate-index-items.ensures.count in
    let whole = YieldsList-at c.into_iter-index-iterator.ensures.into_iter_gives numbered in
    let e = YieldsList-end whole c.loop-index.yielded _ c.loop-index.yielded_by _ _ c.in-None.is c.next.ensures.steps in
    e.1 ∙ length-enumerate_from 0 (chars text) ∙ ap length c.shown-text.ensures

-- nothing is counted at first
pub loop-index-init : goal.loop-index-init
loop-index-init c =
    let y = c.args.layout.now in
    let s = c.args.pen.now.page.switches in (
      draws_places_none c.args.pen.now (place_in s y (λ k. position_paint (shown_at c.args.paints.now k))),
      λ k h. refl,
      c.new-counted.ensures.counted s y c.shown-text.ensures,
      omega (arith, c.new-counted.ensures.place),
    )

-- a turn writes one place more
pub loop-index-preserved : goal.loop-index-preserved
loop-index-preserved c =
    let n = length c.loop-index.yielded in
    let paints = c.args.paints.now in
    let y = c.args.layout.now in
    let s = c.args.pen.now.page.switches in
    let r = c.loop-index.pen.page.switches in
    let kept : r ≡ s = ap (λ (q : PageFields). q.switches) (page_kept c.args.pen.now c.loop-index.pen _ c.loop-index.invariant.0) in
    let e : length (c.loop-index.yielded ++ (c.in-Some.index, c.in-Some.c) ∷ []) ≡ n + 1 = length_push _ _ in
    let t = turn c in
    let seen : (k : ℕ) → n ≤ k → shown_at (drop c.stretch_at-number.result paints) k ≡ shown_at paints k =
    λ k h. c.stretch_at-number.ensures.seen k (omega (arith, t.1, h)) ∙ c.loop-index.invariant.1 k h in
    let paint : c.stretch_paint.result ≡ position_paint (shown_at paints n) =
    c.stretch_paint.ensures n (λ s h. let below = c.stretch_at-number.ensures.reaches s h in omega (arith, t.1, below)) ∙ ap position_paint (seen n (omega arith)) in
    let drawn = c.in_ok-push_char.ensures.drawn y (subst (λ (q : Switches). IsCounted q y c.loop-index.counted) (sym kept) c.loop-index.invariant.2) (omega (arith, t.0, t.1)) in
    let place = c.in_ok-push_char.ensures.place in
    rw e (
      draws_place c.args.pen.now c.loop-index.pen c.push_char.new.pen y (λ k. position_paint (shown_at paints k)) n c.in-Some.index
          c.in-Some.c c.stretch_paint.result c.loop-index.invariant.0 t.1 t.2 paint
          (subst (Draws c.loop-index.pen c.push_char.new.pen)
          (sym (whole_pieces r c.stretch_paint.result y c.in-Some.index c.in-Some.c c.requires.whole)) drawn.1),
      λ k h. seen k (omega (arith, h)),
      subst (λ (q : Switches). IsCounted q y c.push_char.new.counted) kept drawn.0,
      omega (arith, place, t.1),
    )

-- the last turn was at the last place
pub returns : goal.returns
returns c =
    draws_all c.args.pen.now c.loop-index.pen c.args.layout.now (λ k. position_paint (shown_at c.args.paints.now k)) (length c.loop-index.yielded)
    (ended c) c.loop-index.invariant.0
