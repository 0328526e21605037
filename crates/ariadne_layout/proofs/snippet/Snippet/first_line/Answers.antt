-- So many lines before that of the first label, or line 0.
use Rattle.std.proofs.Common.{◌∙◌, ◌-◌, ap}
use Rattle.ariadne_picture.specs.Groups.{group_start_line}
use Rattle.ariadne_picture.specs.Ranks.{first_line}
use Rattle.ariadne_layout.specs.Snippets.{SnippetFields}
use Rattle.ariadne_layout.proofs.snippet.Snippet.first_line.Goals as goal

pub returns : goal.returns
unfolding first_line
returns g c =
    c.saturating_sub.ensures ∙ (λ i. c.group_start_line.ensures i - (c.switches.ensures i).context_lines)
    ∙ ap (λ (v : SnippetFields). group_start_line v.section.sheet.labels - c.args.self.now.section.sheet.switches.context_lines) c.self.view_is
