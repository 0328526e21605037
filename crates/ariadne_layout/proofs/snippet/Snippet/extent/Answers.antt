-- A line of the source is in its table.
use Rattle.std.proofs.Common.{◌≡◌, ◌∙◌, ap, refl, subst, sym}
use Rattle.std.specs.Option.{IsSome}
use Rattle.std.specs.Prelude.{slice_get}
use Rattle.ariadne_base.specs.Table.{line_table}
use Rattle.ariadne_layout.specs.Snippets.{SnippetFields}
use Rattle.ariadne_layout.proofs.SourceLines.{line-read, line-there}
use Rattle.ariadne_layout.proofs.snippet.Snippet.extent.Given.{Over}
use Rattle.ariadne_layout.proofs.snippet.Snippet.extent.Goals.{After-line}
use Rattle.ariadne_layout.proofs.snippet.Snippet.extent.Goals as goal

-- it is read there
read : (g : Over) (c : After-line g) → c.line.result ≡ slice_get (line_table c.args.self.now.section.sheet.lines) c.args.line
read g c = c.line.ensures ∙ ap (λ (v : SnippetFields). slice_get (line_table v.section.sheet.lines) c.args.line) c.self.view_is

pub unwrap-requires : goal.unwrap-requires
unwrap-requires g c =
    let ls = c.args.self.now.section.sheet.lines in
    subst (λ o. IsSome o) (sym (read g (goal.at.unwrap-requires g c).After-line ∙ line-there ls c.args.line c.requires.within)) refl

pub returns : goal.returns
returns g c =
    let ls = c.args.self.now.section.sheet.lines in
    line-read c.line.result ls c.args.line c.unwrap.result (read g (goal.at.returns g c).After-line) c.unwrap.ensures c.requires.within
