use Rattle.std.proofs.Common.{◌∙◌, ap, sym}
use Rattle.std.specs.Prelude.{option_map}
use Rattle.ariadne_matchers.proofs.RowLines.{caught_all, caught_end, caught_more, fits_as, pattern}
use Rattle.ariadne_matchers.specs.Catches.{caught_at}
use Rattle.ariadne_matchers.specs.MatchedRows.{row_of}
use Rattle.ariadne_matchers.proofs.rows.RowSearch.catch_front.Goals as goal

-- one more line fits
pub loop-line-preserved : goal.loop-line-preserved
loop-line-preserved c =
    let so_far = c.loop-line.invariant in
    let i = c.loop-line.line-index in
    record {
      row = ap (pattern c.loop-line.self.often c.loop-line.self.groups) c.catch.ensures.same ∙ so_far.row;
      same = caught_more (row_of c.args.self.now) c.args.lines.now i c.loop-line.all.items so_far.same _ c.in-Some.caught _ c.loop-line-test.true
          (fits_as (row_of c.loop-line.self) (row_of c.args.self.now) _ _ (sym (ap (option_map caught_at) c.in-Some.is) ∙ c.catch.ensures.caught) so_far.row)
          c.in_ok-push-in-Some.ensures.items;
    }

-- it doesn't
pub returns-in-None-clause-caught : goal.returns-in-None-clause-caught
returns-in-None-clause-caught c =
    let so_far = c.loop-line.invariant in
    caught_end (row_of c.args.self.now) c.args.lines.now c.loop-line.line-index c.loop-line.all.items so_far.same _ c.loop-line-test.true
    (fits_as (row_of c.loop-line.self) (row_of c.args.self.now) _ _ (sym (ap (option_map caught_at) c.in-None.is) ∙ c.catch.ensures.caught) so_far.row)

-- all fit
pub returns-clause-caught : goal.returns-clause-caught
returns-clause-caught c =
    caught_all (row_of c.args.self.now) c.args.lines.now c.loop-line.line-index c.loop-line.all.items c.loop-line.invariant.same c.loop-line-test.false

-- the row is the same
pub returns-in-None-clause-same : goal.returns-in-None-clause-same
returns-in-None-clause-same c = ap (pattern c.loop-line.self.often c.loop-line.self.groups) c.catch.ensures.same ∙ c.loop-line.invariant.row

pub returns-in_err-push-in-Some-clause-same : goal.returns-in_err-push-in-Some-clause-same
returns-in_err-push-in-Some-clause-same c =
    ap (pattern c.loop-line.self.often c.loop-line.self.groups) c.catch.ensures.same ∙ c.loop-line.invariant.row

pub returns-clause-same : goal.returns-clause-same
returns-clause-same c = c.loop-line.invariant.row
