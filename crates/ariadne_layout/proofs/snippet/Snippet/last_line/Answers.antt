-- So many lines behind that of the last label, or as many as the source has.
use Rattle.std.proofs.Common.{◌∙◌, ◌+◌, ◌-◌, ap, length, min, suc}
use Rattle.ariadne_picture.specs.Groups.{group_end_line}
use Rattle.ariadne_picture.specs.Ranks.{last_line}
use Rattle.ariadne_layout.specs.Snippets.{SnippetFields}
use Rattle.ariadne_layout.proofs.snippet.Snippet.last_line.Goals as goal

pub returns : goal.returns
unfolding last_line
returns g c =
    let context = c.args.self.now.section.sheet.switches.context_lines in
    let last = group_end_line c.self.inside.labels.now in
    c.last_line.ensures
    ∙ (λ i. last + min (c.switches.ensures i).context_lines (c.number_of_lines.ensures.number i - suc last))
    ∙ ap (λ (v : SnippetFields). let end = group_end_line v.section.sheet.labels in
    end + min context (length v.section.sheet.lines - suc end)) c.self.view_is
