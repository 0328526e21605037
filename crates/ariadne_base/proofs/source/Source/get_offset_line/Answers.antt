use Rattle.std.proofs.Common.{length, subst, sym, ap, ◌∙◌, ◌-◌, arith}
use Rattle.std.specs.Str.{chars}
use Rattle.std.specs.List.Sorted.{IsNonDecreasingBy}
use Rattle.ariadne_base.specs.Listing.{listed_lines}
use Rattle.ariadne_base.specs.Table.{LineExtent}
use Rattle.ariadne_base.specs.declared.source.start.Start.{Start}
use Rattle.ariadne_base.proofs.LocationLemmas.{offset_is}
use Rattle.ariadne_base.proofs.StartLemmas.{begins_rise, chars_is, found_some, found_there, found_begins, found_location}
use Rattle.ariadne_base.proofs.source.Source.get_offset_line.Goals as goal

-- the lines begin one after another
pub begun_at-number-requires : goal.begun_at-number-requires
begun_at-number-requires g c =
    let ls = listed_lines c.args.self.now in
    subst (IsNonDecreasingBy (λ (s : Start). s.chars)) (sym c.begins.ensures) (begins_rise length (λ s. s.chars) ls (chars_is ls))

-- the first line begins at 0
pub overflow_sub-number : goal.overflow_sub-number
overflow_sub-number g c =
    found_some length (λ s. s.chars) chars_is (chars c.args.self.now.text) _ _ _
    c.begins.ensures c.begun_at-number.ensures.bound c.begun_at-number.ensures.point

-- the number found is that of a line
pub line_at-line-requires : goal.line_at-line-requires
line_at-line-requires g c =
    found_there length (λ s. s.chars) chars_is (chars c.args.self.now.text) _ _ _
    c.begins.ensures c.begun_at-number.ensures.bound c.begun_at-number.ensures.point

-- the line found begins at the offset or before it
pub overflow_sub-result : goal.overflow_sub-result
overflow_sub-result g c =
    let begins = found_begins length (λ s. s.chars) chars_is (chars c.args.self.now.text) _ _ _
    c.begins.ensures c.begun_at-number.ensures.bound c.begun_at-number.ensures.point in
    let line = ap (λ (r : LineExtent). r.offset) (c.line.view_is ∙ c.line_at-line.ensures)
    ∙ offset_is (listed_lines c.args.self.now) (c.begun_at-number.result - 1) in
    omega arith

-- the line found, its number and the rest of the offset are the location
pub returns-clause-location : goal.returns-clause-location
returns-clause-location g c =
    let line = ap (λ (r : LineExtent). r.offset) (c.line.view_is ∙ c.line_at-line.ensures)
    ∙ offset_is (listed_lines c.args.self.now) (c.begun_at-number.result - 1) in
    found_location length (λ s. s.chars) chars_is (chars c.args.self.now.text) _ _ _
    c.begins.ensures c.begun_at-number.ensures.bound c.begun_at-number.ensures.point
    c.line_at-line.result c.line.inside.offset c.line_at-line.ensures line

-- it is a line
pub returns-clause-number : goal.returns-clause-number
returns-clause-number g c =
    found_there length (λ s. s.chars) chars_is (chars c.args.self.now.text) _ _ _
    c.begins.ensures c.begun_at-number.ensures.bound c.begun_at-number.ensures.point
