-- The location is that of the offset that the header names.
use Rattle.std.proofs.Common.{◌≡◌, ◌∙◌, ◌+◌, ◌≤◌, ap, arith, length, sym, subst, true≢false, IfSome, Option, Some, ℕ, List}
use Rattle.std.specs.Prelude.{chars}
use Rattle.ariadne_base.specs.Lines.{lines_of}
use Rattle.ariadne_base.specs.Listing.{listed_lines}
use Rattle.ariadne_base.specs.Locations.{column_at}
use Rattle.ariadne_base.proofs.LineLaws.{lines_length}
use Rattle.ariadne_picture.specs.Lists.{total}
use Rattle.ariadne_picture.specs.Pieces.{location_text}
use Rattle.ariadne_layout.specs.Snippets.{location_numbers, SnippetFields}
use Rattle.ariadne_layout.proofs.LocationNumbers.{location_column, location_line, no_location, some_location}
use Rattle.ariadne_layout.proofs.SourceLines.{total_is}
use Rattle.ariadne_layout.proofs.snippet.Snippet.location.Given.{Over}
use Rattle.ariadne_layout.proofs.snippet.Snippet.location.Goals.{In_ok-offset}
use Rattle.ariadne_layout.proofs.snippet.Snippet.location.Goals as goal

-- what the header shows
text_of : SnippetFields → List ℕ
text_of v = location_text v.section.sheet.lines v.section.display_offset v.section.header_offset

-- the offset lies in the source
within : (g : Over) (c : In_ok-offset g) → c.in_ok-offset.offset ≤ total length (listed_lines c.self.inside.source.now)
within g c =
    subst (λ (o : Option ℕ). IfSome o (λ k. k ≤ total length (listed_lines c.self.inside.source.now))) c.in_ok-offset.was c.self.invariant.location

-- there is none
pub returns-in_err-offset : goal.returns-in_err-offset
unfolding text_of
returns-in_err-offset g c =
    ap location_numbers c.from_residual.ensures
    ∙ sym (no_location (listed_lines c.self.inside.source.now) c.self.inside.source.now.display_offset c.self.inside.header_offset c.in_err-offset.was)
    ∙ ap text_of c.self.view_is

-- it is no offset past the source
pub returns-in_err-line : goal.returns-in_err-line
returns-in_err-line g c =
    let text = chars c.self.inside.source.now.text in
    let few = within g (goal.at.returns-in_err-line g c).In_ok-offset in
    let sum : total length (lines_of text) ≡ length text = total_is length (lines_of text) ∙ lines_length text in
    let bad = c.in_err-line.ensures.found.1 (omega arith) in
    absurd (true≢false (sym bad))

-- its column is no greater
pub overflow_add-result-3 : goal.overflow_add-result-3
unfolding column_at
overflow_add-result-3 g c =
    let few = within g (goal.at.overflow_add-result-3 g c).In_ok-offset in
    let small = c.self.invariant.places_fit in
    let column = location_column _ _ _ _ _ c.in_ok-line.ensures.location in
    omega arith

-- the location is found
pub returns : goal.returns
unfolding text_of
returns g c =
    let listing = c.self.inside.source.now in
    let ls = listed_lines listing in
    let o = c.in_ok-offset.offset in
    let n = c.in_ok-line.line in
    let k = c.in_ok-line.column in
    ap (λ d. location_numbers (Some (n + 1 + d, k + 1))) c.display_line_offset.ensures.offset
    ∙ sym (some_location ls listing.display_offset o n k c.self.inside.header_offset c.in_ok-offset.was
    (location_line ls o _ n k c.in_ok-line.ensures.location) (location_column ls o _ n k c.in_ok-line.ensures.location))
    ∙ ap text_of c.self.view_is
