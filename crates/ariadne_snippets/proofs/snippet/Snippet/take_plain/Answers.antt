use Rattle.std.proofs.Common.{refl, Some}
use Rattle.ariadne_snippets.specs.Snippets.{same_line, TellsOf}
use Rattle.ariadne_snippets.specs.declared.snippet.Snippet.{Snippet}
use Rattle.ariadne_snippets.specs.declared.taken.Taken.TheVariants.{Fixes}
use Rattle.ariadne_snippets.proofs.Nexts.{next_same}
use Rattle.ariadne_snippets.proofs.Telling.{not_ended}
use Rattle.ariadne_snippets.proofs.snippet.Snippet.take_plain.Goals as goal

-- nothing is quoted
pub returns-in_default-clause-tells : goal.returns-in_default-clause-tells
returns-in_default-clause-tells c = c.take_none.ensures.tells c.args.line.now

pub returns-then-is_blank-clause-tells : goal.returns-then-is_blank-clause-tells
returns-then-is_blank-clause-tells c = c.take_none-then-is_blank.ensures.tells c.args.line.now

-- the line is none of the snippet
pub returns-in-NotOfSnippet-clause-quotes : goal.returns-in-NotOfSnippet-clause-quotes
returns-in-NotOfSnippet-clause-quotes c =
    λ source.
    next_same _ source _ (Some c.plain_row.new.quoted) _ c.take_none-in-NotOfSnippet.ensures.quoted
    (same_line c.in-Some.quoted c.plain_row.new.quoted c.in-Some.is refl c.plain_row.ensures.line)

pub returns-in-NotOfSnippet-clause-tells : goal.returns-in-NotOfSnippet-clause-tells
returns-in-NotOfSnippet-clause-tells c = c.take_none-in-NotOfSnippet.ensures.tells c.args.line.now

-- it is the last
pub returns-in-Fixes-clause-quotes : goal.returns-in-Fixes-clause-quotes
returns-in-Fixes-clause-quotes c =
    λ source. same_line c.in-Some.quoted c.plain_row.new.quoted c.in-Some.is refl c.plain_row.ensures.line

pub returns-in-Fixes-clause-tells : goal.returns-in-Fixes-clause-tells
returns-in-Fixes-clause-tells c =
    let tells : TellsOf (Some c.plain_row.new.quoted) c.args.line.now (Fixes c.in-Fixes.fixes) = rw c.in-Fixes.is at (c.in_ok-taken.ensures).tells in
    tells

-- it is a detail
pub returns-in-Note-clause-quotes : goal.returns-in-Note-clause-quotes
returns-in-Note-clause-quotes c =
    λ source. same_line c.in-Some.quoted c.plain_row.new.quoted c.in-Some.is refl c.plain_row.ensures.line

-- it says something else
pub returns-in_default-2 : goal.returns-in_default-2
returns-in_default-2 c =
    let snippet : Snippet = record {
      alloc = c.args.self.now.alloc;
      line = c.args.self.now.line;
      caret = c.args.self.now.caret;
      form = c.args.self.now.form;
      stage = c.args.self.now.stage;
      advice = c.args.self.now.advice;
      quoted = Some c.plain_row.new.quoted;
      opened = c.args.self.now.opened;
      stroke = c.args.self.now.stroke;
      reached = c.args.self.now.reached;
    } in record {
      quotes = λ source. same_line c.in-Some.quoted c.plain_row.new.quoted c.in-Some.is refl c.plain_row.ensures.line;
      tells = (c.in_ok-taken.ensures).tells;
      ends = not_ended snippet c.in_ok-taken.taken c.in_default-2.not-NotOfSnippet;
    }
