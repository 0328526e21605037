use Rattle.std.proofs.Common.{arith}
use Rattle.std.proofs.lemmas.Bool.Decides.{nat_tests}
use Rattle.ariadne_parse.proofs.Passing.{passed_at, passed_end}
use Rattle.ariadne_parse.proofs.columns.passed.Goals as goal

-- none is passed at a line feed, nor where too many columns are taken
pub returns-then-c-eq10-clause-passed : goal.returns-then-c-eq10-clause-passed
returns-then-c-eq10-clause-passed c =
    let e = passed_at c.args.unit c.args.limit c.loop-span.at c.args.text.now c.loop-span.span c.index-text-span.result c.columns_of-columns.result
    c.loop-span-test.true c.index-text-span.is c.columns_of-columns.ensures in
    grind (arith, nat_tests)

-- else one more is
pub loop-span-preserved : goal.loop-span-preserved
loop-span-preserved c =
    let e = passed_at c.args.unit c.args.limit c.loop-span.at c.args.text.now c.loop-span.span c.index-text-span.result c.columns_of-columns.result
    c.loop-span-test.true c.index-text-span.is c.columns_of-columns.ensures in
    grind (arith, nat_tests)

-- all are, at the end
pub returns-clause-passed : goal.returns-clause-passed
returns-clause-passed c =
    let e = passed_end c.args.unit c.args.limit c.loop-span.at c.args.text.now c.loop-span.span c.loop-span-test.false in
    grind (arith, nat_tests)
