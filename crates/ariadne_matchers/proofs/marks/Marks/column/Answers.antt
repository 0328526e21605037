use Rattle.std.proofs.Common.{◌∙◌, arith, sym}
use Rattle.std.proofs.lemmas.List.{length-take-le}
use Rattle.ariadne_matchers.proofs.Found.{found_within}
use Rattle.ariadne_matchers.proofs.marks.Marks.column.Goals as goal

-- the letters are found within the line
pub slice_bounds-columns_behind-end : goal.slice_bounds-columns_behind-end
slice_bounds-columns_behind-end c =
    let within = found_within c.as_slice.result.now 0 c.args.line.now c.in_ok-place.place (sym c.place_of.ensures ∙ c.in_ok-place.was) in
    sym (length-take-le c.in_ok-place.place c.args.line.now (omega (arith, within)))
