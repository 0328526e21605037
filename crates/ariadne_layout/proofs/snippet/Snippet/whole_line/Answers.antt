-- The text of a line is cut out of the source.
use Rattle.std.proofs.Common.{◌≡◌, ◌∙◌, ◌<◌, ap, length, subst, sym, List, ℕ}
use Rattle.std.specs.Prelude.{encode_utf8_all}
use Rattle.ariadne_base.specs.Listing.{listed_lines}
use Rattle.ariadne_base.specs.Locations.{line_text}
use Rattle.ariadne_base.specs.Table.{line_extent}
use Rattle.ariadne_layout.specs.Snippets.{SnippetFields}
use Rattle.ariadne_layout.proofs.SourceLines.{line-chars, of-some, some-and}
use Rattle.ariadne_layout.proofs.snippet.Snippet.whole_line.Given.{Over}
use Rattle.ariadne_layout.proofs.snippet.Snippet.whole_line.Goals.{After-get_line_text}
use Rattle.ariadne_layout.proofs.snippet.Snippet.whole_line.Goals as goal

-- its lines are those of the source
lines : (g : Over) (c : After-get_line_text g) → listed_lines c.self.inside.source.now ≡ c.args.self.now.section.sheet.lines
lines g c = ap (λ (v : SnippetFields). v.section.sheet.lines) c.self.view_is

-- it is there
pub unwrap-requires : goal.unwrap-requires
unwrap-requires g c =
    let b = (goal.at.unwrap-requires g c).After-get_line_text in
    let l = c.args.line in
    some-and c.get_line_text.result _
    (c.get_line_text.ensures.own l (subst (λ (ls : List (List ℕ)). l < length ls) (sym (lines g b)) c.requires.within)
    (c.extent-extent.ensures ∙ ap (λ ls. line_extent ls l) (sym (lines g b))))

-- it is that of the line
pub returns : goal.returns
returns g c =
    let b = (goal.at.returns g c).After-get_line_text in
    let l = c.args.line in
    let same = lines g b in
    let bytes : c.unwrap.result.now ≡ encode_utf8_all (line_text (listed_lines c.self.inside.source.now) l) =
    of-some c.get_line_text.result _ c.unwrap.result
    (c.get_line_text.ensures.own l (subst (λ (ls : List (List ℕ)). l < length ls) (sym same) c.requires.within)
    (c.extent-extent.ensures ∙ ap (λ ls. line_extent ls l) (sym same))) c.unwrap.ensures in
    line-chars c.unwrap.result.now (line_text (listed_lines c.self.inside.source.now) l) (c.self.invariant.scalars_lines l) bytes
    ∙ ap (λ ls. line_text ls l) same
