use Rattle.std.proofs.Common.{refl, ◌∙◌, lit<}
use Rattle.std.proofs.lemmas.Str.Pattern.{strip_suffix_char}
use Rattle.ariadne_layout.proofs.Layouts.{end_cut}
use Rattle.ariadne_layout.proofs.line_text.unterminated.Goals as goal

-- each of the two is white space at the end
pub returns : goal.returns
returns c =
    let line = c.args.line.now in
    let front = c.unwrap_or-line.result.now in
    end_cut front c.strip_suffix-2.result c.unwrap_or-line.result c.unwrap_or.result 13 c.unwrap_or.utf8 c.unwrap_or.ensures refl
    (strip_suffix_char 13 front c.strip_suffix-2.result c.strip_suffix-2.ensures.cases (lit< tt)) (lit< tt) refl
    ∙ end_cut line c.strip_suffix.result c.args.line c.unwrap_or-line.result 10 c.unwrap_or-line.utf8 c.unwrap_or-line.ensures refl
    (strip_suffix_char 10 line c.strip_suffix.result c.strip_suffix.ensures.cases (lit< tt)) (lit< tt) refl
