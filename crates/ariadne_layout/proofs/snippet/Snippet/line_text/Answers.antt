-- The length of a line is that of its extent, and its characters are those of its text.
use Rattle.std.proofs.Common.{◌≡◌, ◌∙◌, ap, length, subst, sym, ℕ, List}
use Rattle.std.specs.Prelude.{IfSome}
use Rattle.ariadne_base.specs.Table.{LineExtent}
use Rattle.ariadne_layout.specs.Ends.{shown_bytes}
use Rattle.ariadne_layout.proofs.SourceLines.{len-is}
use Rattle.ariadne_layout.proofs.snippet.Snippet.line_text.Goals as goal

pub new-requires : goal.new-requires
new-requires g c = record {
  len = c.len.ensures ∙ ap (λ (e : LineExtent). e.len) c.extent.ensures ∙ len-is c.args.self.now.section.sheet.lines c.args.line
      ∙ ap length (sym c.whole_line.ensures);
  known = subst (λ (text : List ℕ). IfSome c.args.known (λ n. n ≡ shown_bytes text)) (sym c.whole_line.ensures) c.requires.known;
}
