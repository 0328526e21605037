use Rattle.std.proofs.Common.{refl, Some}
use Rattle.ariadne_snippets.specs.Snippets.{same_line, AreMarksIn, RowTells}
use Rattle.ariadne_snippets.specs.declared.snippet.Snippet.{Snippet}
use Rattle.ariadne_snippets.specs.declared.taken.Taken.TheVariants.{Ranges}
use Rattle.ariadne_snippets.proofs.Endings.{in_by_end, in_further}
use Rattle.ariadne_snippets.proofs.Nexts.{next_same}
use Rattle.ariadne_snippets.proofs.Telling.{not_ended, row_tells, some_and}
use Rattle.ariadne_snippets.proofs.snippet.Snippet.take_framed_row.Goals as goal

-- it is one of strokes
pub returns-then-is_strokes-clause-tells : goal.returns-then-is_strokes-clause-tells
returns-then-is_strokes-clause-tells c = λ line end. c.take_strokes.ensures.tells line

-- nothing is quoted
pub returns-in_default-clause-tells : goal.returns-in_default-clause-tells
returns-in_default-clause-tells c = λ line end. c.take_none.ensures.tells line

-- the row is none of the snippet
pub returns-in-NotOfSnippet-clause-quotes : goal.returns-in-NotOfSnippet-clause-quotes
returns-in-NotOfSnippet-clause-quotes c =
    λ source.
    next_same _ source _ (Some c.framed_row.new.quoted) _ c.take_none-in-NotOfSnippet.ensures.quoted
    (same_line c.in-Some.quoted c.framed_row.new.quoted c.in-Some.is refl c.framed_row.ensures.line)

pub returns-in-NotOfSnippet-clause-tells : goal.returns-in-NotOfSnippet-clause-tells
returns-in-NotOfSnippet-clause-tells c = λ line end. c.take_none-in-NotOfSnippet.ensures.tells line

-- it is one of marks
pub returns-in_ok-with_lines-in-Ranges-clause-quotes : goal.returns-in_ok-with_lines-in-Ranges-clause-quotes
returns-in_ok-with_lines-in-Ranges-clause-quotes c =
    λ source.
    next_same _ source _ (Some c.framed_row.new.quoted) _ c.with_lines.ensures.quoted
    (same_line c.in-Some.quoted c.framed_row.new.quoted c.in-Some.is refl c.framed_row.ensures.line)

pub returns-in_ok-with_lines-in-Ranges-clause-tells : goal.returns-in_ok-with_lines-in-Ranges-clause-tells
returns-in_ok-with_lines-in-Ranges-clause-tells c =
    λ line end.
    let row : RowTells c.framed_row.new.quoted c.args.row.now (Ranges c.in-Ranges.marks) = rw c.in-Ranges.is at (c.in_ok-taken.ensures).tells in
    let items = c.in_ok-with_lines-in-Ranges.field-0.items in
    let marks : AreMarksIn c.framed_row.new.quoted row.0 items = (c.in_ok-with_lines-in-Ranges.ensures).marks c.framed_row.new.quoted row.0 row.2 in (
      row.0,
      in_further row.0 c.args.row.now line row.1 (in_by_end c.args.row.now line end),
      some_and (λ q. AreMarksIn q row.0 items) c.with_lines.new.self.quoted c.framed_row.new.quoted c.with_lines.ensures.quoted marks,
    )

-- it says something else
pub returns-in_default-2 : goal.returns-in_default-2
returns-in_default-2 c =
    let snippet : Snippet = record {
      alloc = c.args.self.now.alloc;
      line = c.args.self.now.line;
      caret = c.args.self.now.caret;
      form = c.args.self.now.form;
      stage = c.args.self.now.stage;
      advice = c.args.self.now.advice;
      quoted = Some c.framed_row.new.quoted;
      opened = c.args.self.now.opened;
      stroke = c.args.self.now.stroke;
      reached = c.args.self.now.reached;
    } in record {
      quotes = λ source. same_line c.in-Some.quoted c.framed_row.new.quoted c.in-Some.is refl c.framed_row.ensures.line;
      tells = λ line end. row_tells c.framed_row.new.quoted c.args.row.now line c.in_ok-taken.taken end (c.in_ok-taken.ensures).tells;
      ends = not_ended snippet c.in_ok-taken.taken c.in_default-2.not-NotOfSnippet;
    }
