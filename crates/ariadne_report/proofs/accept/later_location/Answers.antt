-- The line is the known one where the offset lies in it, and else the one that is found.
use Rattle.std.proofs.Common.{◌<◌, ◌-◌, arith, ap, ◌∙◌}
use Rattle.ariadne_report.proofs.Accepting.{some_holds}
use Rattle.ariadne_report.proofs.Locating.{later_line, later_place, place_number, place_column}
use Rattle.ariadne_report.proofs.accept.later_location.Goals as goal

-- the known line
pub returns-then-place-len-clause-line : goal.returns-then-place-len-clause-line
returns-then-place-len-clause-line g c =
    let r = c.requires in
    let near : c.args.offset - c.args.line.offset < c.args.line.len = omega arith in
    later_line _ c.args.line _ c.args.offset r.number r.line r.behind near

-- the place in it
pub returns-then-place-len-clause-place : goal.returns-then-place-len-clause-place
returns-then-place-len-clause-place g c =
    let r = c.requires in
    let near : c.args.offset - c.args.line.offset < c.args.line.len = omega arith in
    ap (λ b. c.args.offset - b) c.offset.ensures ∙ later_place _ c.args.line _ c.args.offset r.number r.line r.behind near

-- the line that is found
pub returns-clause-line : goal.returns-clause-line
returns-clause-line g c =
    place_number _ _ _ _ _ _ (some_holds _ _ _ c.unwrap-number.ensures c.get_offset_line.ensures.location)

-- the place in it
pub returns-clause-place : goal.returns-clause-place
returns-clause-place g c =
    place_column _ _ _ _ _ _ (some_holds _ _ _ c.unwrap-number.ensures c.get_offset_line.ensures.location)
