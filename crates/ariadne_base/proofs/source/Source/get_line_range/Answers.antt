use Rattle.std.proofs.Common.{◌≡◌, suc, ◌+◌, length, ap, ◌∙◌, arith, rules}
use Rattle.std.specs.Str.{chars}
use Rattle.std.specs.Option.{option_map_or}
use Rattle.ariadne_base.specs.Listing.{listed_lines}
use Rattle.ariadne_base.specs.Ranges.{last_offset, line_number, first_line, line_end}
use Rattle.ariadne_base.proofs.RangeLemmas.{lines_some}
use Rattle.ariadne_base.proofs.source.Source.get_line_range.Goals as goal

-- a line has a number below their number, which fits
pub overflow_add-end : goal.overflow_add-end
overflow_add-end g c = omega (arith, c.number_of_lines-lines.ensures, c.in-Some.ensures.there)

-- the first line is not behind the last
pub returns-in-Some-clause-some : goal.returns-in-Some-clause-some
returns-in-Some-clause-some g c =
    let start : c.unwrap_or-start.result ≡ first_line (listed_lines c.args.self.now) (g.S.Span.start_of c.args.span.now) = search rules in
    let stop : c.in-Some.number + 1 ≡ line_end (listed_lines c.args.self.now) (g.S.Span.start_of c.args.span.now)
    (g.S.Span.end_of c.args.span.now) = search rules in
    let some = lines_some (chars c.args.self.now.text) (g.S.Span.start_of c.args.span.now) (g.S.Span.end_of c.args.span.now) in
    omega arith

-- a span that ends past the text has all lines from its first on
pub returns-in-None-clause-end : goal.returns-in-None-clause-end
returns-in-None-clause-end g c =
    let last : c.max-last.result ≡ last_offset (g.S.Span.start_of c.args.span.now) (g.S.Span.end_of c.args.span.now) = search rules in
    let none = c.in-None.ensures.number ∙ ap (line_number (listed_lines c.args.self.now)) last in
    c.number_of_lines-lines.ensures ∙ ap (λ o. option_map_or suc o (length (listed_lines c.args.self.now))) none

-- the first line is one of all
pub returns-in-None-clause-some : goal.returns-in-None-clause-some
returns-in-None-clause-some g c =
    let start : c.unwrap_or-start.result ≡ first_line (listed_lines c.args.self.now) (g.S.Span.start_of c.args.span.now) = search rules in
    let stop : c.number_of_lines-lines.result ≡ line_end (listed_lines c.args.self.now) (g.S.Span.start_of c.args.span.now)
    (g.S.Span.end_of c.args.span.now) = returns-in-None-clause-end g c in
    let some = lines_some (chars c.args.self.now.text) (g.S.Span.start_of c.args.span.now) (g.S.Span.end_of c.args.span.now) in
    omega arith
