use Rattle.std.proofs.Common.{◌∙◌, ap, rules, List}
use Rattle.std.specs.Prelude.{option_map}
use Rattle.ariadne_matchers.specs.Catches.{Catch, Cut}
use Rattle.ariadne_matchers.specs.Lasts.{last_of}
use Rattle.ariadne_matchers.specs.QuotedMarks.{marks_by}
use Rattle.ariadne_matchers.specs.MatchedMessages.{message_of}
use Rattle.ariadne_matchers.specs.WordSeverities.{severity_by}
use Rattle.ariadne_matchers.specs.MatchedDiagnostics.{begin_by, end_by}
use Rattle.ariadne_matchers.specs.declared.lasts.Group.TheVariants.{Quoted, Marks}
use Rattle.ariadne_matchers.proofs.matched.matched_at.Goals as goal

-- each part is what its function tells
pub returns : goal.returns
returns c =
    let entry = c.args.entry.now in
    let place = c.lines_at-place.ensures in
    record {
      severity = c.severity.ensures ∙ ap (λ caught. severity_by c.args.words.now caught entry.severity) c.last.ensures;
      code = c.in_ok-copied.ensures ∙ ap (option_map (λ (cut : Cut). cut.text)) c.last-code.ensures;
      message = c.in_ok-message.ensures ∙ ap (message_of entry _) c.last-code.ensures;
      file_is = c.in_ok-unescaped.ensures;
      line_is = search rules;
      begin = c.begin_of.ensures ∙ ap (begin_by entry.first_column) place;
      end = c.end_of.ensures ∙ ap (end_by entry c.args.line) place;
      marks = c.in_ok-last_marks.ensures
          ∙ ap (λ (lines : List Catch). marks_by entry.measure (last_of Quoted lines) (last_of Marks lines)) place;
    }
