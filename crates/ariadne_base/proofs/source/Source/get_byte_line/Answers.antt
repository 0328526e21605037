use Rattle.std.proofs.Common.{subst, sym, ap, ◌∙◌, ◌-◌, arith}
use Rattle.std.specs.Str.{chars}
use Rattle.std.specs.List.Sorted.{IsNonDecreasingBy}
use Rattle.ariadne_base.specs.Listing.{listed_lines}
use Rattle.ariadne_base.specs.Locations.{byte_len}
use Rattle.ariadne_base.specs.Table.{LineExtent}
use Rattle.ariadne_base.specs.declared.source.start.Start.{Start}
use Rattle.ariadne_base.proofs.LocationLemmas.{byte_offset_is}
use Rattle.ariadne_base.proofs.StartLemmas.{begins_rise, bytes_is, found_some, found_there, found_begins, found_location}
use Rattle.ariadne_base.proofs.source.Source.get_byte_line.Goals as goal

-- the lines begin one after another
pub begun_at_byte-number-requires : goal.begun_at_byte-number-requires
begun_at_byte-number-requires g c =
    let ls = listed_lines c.args.self.now in
    subst (IsNonDecreasingBy (λ (s : Start). s.bytes)) (sym c.begins.ensures) (begins_rise byte_len (λ s. s.bytes) ls (bytes_is ls))

-- the first line begins at 0
pub overflow_sub-number : goal.overflow_sub-number
overflow_sub-number g c =
    found_some byte_len (λ s. s.bytes) bytes_is (chars c.args.self.now.text) _ _ _
    c.begins.ensures c.begun_at_byte-number.ensures.bound c.begun_at_byte-number.ensures.point

-- the number found is that of a line
pub line_at-line-requires : goal.line_at-line-requires
line_at-line-requires g c =
    found_there byte_len (λ s. s.bytes) bytes_is (chars c.args.self.now.text) _ _ _
    c.begins.ensures c.begun_at_byte-number.ensures.bound c.begun_at_byte-number.ensures.point

-- the line found begins at the offset or before it
pub overflow_sub-result : goal.overflow_sub-result
overflow_sub-result g c =
    let begins = found_begins byte_len (λ s. s.bytes) bytes_is (chars c.args.self.now.text) _ _ _
    c.begins.ensures c.begun_at_byte-number.ensures.bound c.begun_at_byte-number.ensures.point in
    let line = ap (λ (r : LineExtent). r.byte_offset) (c.line.view_is ∙ c.line_at-line.ensures)
    ∙ byte_offset_is (listed_lines c.args.self.now) (c.begun_at_byte-number.result - 1) in
    omega arith

-- the line found, its number and the rest of the offset are the location
pub returns-clause-location : goal.returns-clause-location
returns-clause-location g c =
    let line = ap (λ (r : LineExtent). r.byte_offset) (c.line.view_is ∙ c.line_at-line.ensures)
    ∙ byte_offset_is (listed_lines c.args.self.now) (c.begun_at_byte-number.result - 1) in
    found_location byte_len (λ s. s.bytes) bytes_is (chars c.args.self.now.text) _ _ _
    c.begins.ensures c.begun_at_byte-number.ensures.bound c.begun_at_byte-number.ensures.point
    c.line_at-line.result c.line.inside.byte_offset c.line_at-line.ensures line

-- it is a line
pub returns-clause-number : goal.returns-clause-number
returns-clause-number g c =
    found_there byte_len (λ s. s.bytes) bytes_is (chars c.args.self.now.text) _ _ _
    c.begins.ensures c.begun_at_byte-number.ensures.bound c.begun_at_byte-number.ensures.point
