use Rattle.std.proofs.Common.{◌≡◌, ◌-◌, ◌∙◌, Some, length, slice_get, sym, ap, arith}
use Rattle.std.proofs.lemmas.Option.{get_or_from_slice_get, slice_get_within}
use Rattle.ariadne_picture.specs.declared.sight.Part.{Part}
use Rattle.ariadne_render.proofs.SeenPlaces.{end-last, next-end, none-last, none-later, none-shown}
use Rattle.ariadne_render.proofs.seen.seen_behind.Goals as goal

-- without parts nothing is seen
pub returns-in_err-last-clause-none : goal.returns-in_err-last-clause-none
returns-in_err-last-clause-none c = λ e k h. none-shown c.args.parts.now (none-last c.args.parts.now (sym c.in_err-last.ensures.value)) k

-- the place stands later than right behind the last
pub returns-then-last-place-clause-none : goal.returns-then-last-place-clause-none
returns-then-last-place-clause-none c = λ e k h.
    let parts = c.args.parts.now in
    let last = c.in_ok-last.last.now in
    let there : slice_get parts (length parts - 1) ≡ Some last = sym c.in_ok-last.ensures.value in
    let some = slice_get_within parts (length parts - 1) last there in
    let end = end-last parts last (omega (arith, some)) ∙ ap (λ (p : Part). p.to) (get_or_from_slice_get parts (length parts - 1) last last there) in
    none-later parts c.args.place c.requires.apart (omega (arith, end, c.requires.passed, c.if-last-place.true)) k h

-- or there
pub returns-clause-seen : goal.returns-clause-seen
returns-clause-seen c =
    let parts = c.args.parts.now in
    let last = c.in_ok-last.last.now in
    let there : slice_get parts (length parts - 1) ≡ Some last = sym c.in_ok-last.ensures.value in
    let some = slice_get_within parts (length parts - 1) last there in
    let end = end-last parts last (omega (arith, some)) ∙ ap (λ (p : Part). p.to) (get_or_from_slice_get parts (length parts - 1) last last there) in
    next-end parts c.args.place c.requires.apart (omega (arith, some)) (sym c.if-last-place.false ∙ sym end)
