use Rattle.std.proofs.Common.{◌∙◌, ap, arith, sym}
use Rattle.std.proofs.lemmas.Bool.Decides.{nat_tests}
use Rattle.ariadne_matchers.proofs.Letters.{found_end, found_here, found_later}
use Rattle.ariadne_matchers.proofs.Lists.{rest_is}
use Rattle.ariadne_matchers.specs.QuotedMarks.{begin_line}
use Rattle.ariadne_matchers.proofs.marks.place_of.Goals as goal

-- they stand at this place
pub returns-then-begins_with : goal.returns-then-begins_with
returns-then-begins_with c =
    sym (c.loop-place.invariant
    ∙ found_here c.args.letters.now c.args.line.now c.loop-place.place 0 (omega arith)
    (ap (begin_line c.args.letters.now) (sym (rest_is c.args.line.now c.loop-place.place)) ∙ sym c.begins_with.ensures ∙ c.if-begins_with.true))

-- or further on
pub loop-place-preserved : goal.loop-place-preserved
loop-place-preserved c =
    c.loop-place.invariant
    ∙ found_later c.args.letters.now c.args.line.now c.loop-place.place 0 (omega arith)
    (ap (begin_line c.args.letters.now) (sym (rest_is c.args.line.now c.loop-place.place)) ∙ sym c.begins_with.ensures ∙ c.if-begins_with.false)

-- or at the end, if they are none
pub returns-then-is_empty : goal.returns-then-is_empty
returns-then-is_empty c =
    let there = found_end c.args.letters.now c.args.line.now c.loop-place.place (omega arith) in
    grind (arith, nat_tests)

pub returns : goal.returns
returns c =
    let there = found_end c.args.letters.now c.args.line.now c.loop-place.place (omega arith) in
    grind (arith, nat_tests)
