-- What is known of a snippet follows from what is asked of its parts.
use Rattle.std.proofs.Common.{◌≡◌, ◌<◌, ◌≤◌, ◌^◌, ◌∙◌, length, refl, subst, sym, ap, arith, IfSome, ℕ}
use Rattle.std.specs.Prelude.{chars}
use Rattle.std.specs.Str.{IsUtf8}
use Rattle.ariadne_base.specs.Lines.{lines_of}
use Rattle.ariadne_base.proofs.LineLaws.{lines_length}
use Rattle.ariadne_base.specs.Listing.{listed_lines}
use Rattle.ariadne_picture.specs.Lists.{total}
use Rattle.ariadne_picture.specs.Ranks.{Sheet}
use Rattle.ariadne_layout.proofs.SourceLines.{lines-scalars, text-fits, total_is}
use Rattle.ariadne_layout.proofs.LinesShown.{hidden-some}
use Rattle.ariadne_layout.specs.Snippets.{IsSnippet, snippet_of}
use Rattle.ariadne_layout.proofs.snippet.Snippet.new.Given.{Over}
use Rattle.ariadne_layout.proofs.snippet.Snippet.new.Goals.{After-display_line_offset-display_offset}
use Rattle.ariadne_layout.proofs.snippet.Snippet.new.Goals as goal

known : (g : Over) (c : After-display_line_offset-display_offset g)
    → IsSnippet (snippet_of c.args.texts.now c.args.source.now c.args.name.now c.args.labels.now c.args.header_offset c.args.is_first c.args.is_last)
known g c =
    let text = c.args.source.now.text in
    let s : Sheet = record { switches = c.args.texts.now.switches; lines = listed_lines c.args.source.now; labels = c.args.labels.now } in
    let utf8 : IsUtf8 text = subst IsUtf8 c.text-text.ensures c.text-text.utf8 in
    let size = c.text-text.type_inv.1 in
    let same = ap length c.text-text.ensures in
    let small : length text < 2 ^ 63 = omega arith in
    let sum : length (chars text) ≡ total length (lines_of (chars text)) = sym (total_is length (lines_of (chars text)) ∙ lines_length (chars text)) in
    record {
      switches = refl;
      some = c.requires.some;
      over = c.requires.over;
      numbers_fit = c.display_line_offset-display_offset.ensures.fits;
      places_fit = text-fits text utf8 small;
      scalars_lines = lines-scalars text utf8;
      hidden_some = λ l less h. hidden-some (chars text) s l refl c.requires.over c.requires.some less h;
      location = subst (λ (n : ℕ). IfSome c.args.header_offset (λ o. o ≤ n)) sum c.requires.location;
    }

pub invariant_of-result : goal.invariant_of-result
invariant_of-result g c = known g (goal.at.invariant_of-result g c).After-display_line_offset-display_offset

pub returns-clause-is : goal.returns-clause-is
returns-clause-is g c = known g (goal.at.returns-clause-is g c).After-display_line_offset-display_offset
