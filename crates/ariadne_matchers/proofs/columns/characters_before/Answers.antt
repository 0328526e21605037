use Rattle.std.proofs.Common.{arith}
use Rattle.std.proofs.lemmas.Bool.Decides.{nat_tests}
use Rattle.ariadne_matchers.proofs.Passing.{passed_at, passed_end}
use Rattle.ariadne_matchers.proofs.columns.characters_before.Goals as goal

-- none is passed where too many columns are taken
pub returns-then-columns-column-clause-passed : goal.returns-then-columns-column-clause-passed
returns-then-columns-column-clause-passed c =
    let e = passed_at c.args.measure c.args.column c.loop-place.at c.args.line.now c.loop-place.place c.index-line-place.result c.width-columns.result
    c.loop-place-test.true c.index-line-place.is c.width-columns.ensures in
    grind (arith, nat_tests)

-- else one more is
pub loop-place-preserved : goal.loop-place-preserved
loop-place-preserved c =
    let e = passed_at c.args.measure c.args.column c.loop-place.at c.args.line.now c.loop-place.place c.index-line-place.result c.width-columns.result
    c.loop-place-test.true c.index-line-place.is c.width-columns.ensures in
    grind (arith, nat_tests)

-- all are, at the end
pub returns-clause-passed : goal.returns-clause-passed
returns-clause-passed c =
    let e = passed_end c.args.measure c.args.column c.loop-place.at c.args.line.now c.loop-place.place c.loop-place-test.false in
    grind (arith, nat_tests)
