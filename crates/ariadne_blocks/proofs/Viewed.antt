-- Blocks as they are read.
use Rattle.std.proofs.Common.{◌≡◌, ◌∙◌, ℕ, List, refl, ap, sym}
use Rattle.std.specs.Prelude.{Bool, map, slice_get, is_some, Option, None, Some, option_map}
use Rattle.std.specs.Option.{option_copied}
use Rattle.std.specs.Borrow.{Bor}
use Rattle.ariadne_parse.specs.Spans.{seen}
use Rattle.ariadne_parse.specs.declared.diagnostic.Span.{Span}
use Rattle.ariadne_blocks.specs.Blocks.{first_file, first_line, for_programs, of_file, of_message, of_no_span, of_snippet, IsRow, View}
use Rattle.ariadne_blocks.specs.Files.{file_at, line_at, File}
use Rattle.ariadne_blocks.specs.GoingOn.{behind_head}
use Rattle.ariadne_blocks.specs.Telling.{Telling}
use Rattle.ariadne_blocks.specs.declared.block.Block.{Block}
use Rattle.ariadne_blocks.specs.declared.line.Line.{Line}
use Rattle.ariadne_blocks.proofs.Lists.{first_mapped}

-- views are the same whose parts are
pub same_view : (v w : View) → v.parsed ≡ w.parsed → v.path ≡ w.path → v.at ≡ w.at → v.marked ≡ w.marked
    → v.behind ≡ w.behind → v.goes_on ≡ w.goes_on → v.aside ≡ w.aside → v.named ≡ w.named
    → v.caret ≡ w.caret → v.changes ≡ w.changes → v.since ≡ w.since → v.why ≡ w.why → v ≡ w
same_view v w parsed path at marked behind goes_on aside named caret changes since why =
    ap (λ (t : Telling). record v { parsed = t }) parsed
    ∙ ap (λ t. record v { parsed = w.parsed; path = t }) path
    ∙ ap (λ t. record v { parsed = w.parsed; path = w.path; at = t }) at
    ∙ ap (λ t. record v { parsed = w.parsed; path = w.path; at = w.at; marked = t }) marked
    ∙ ap (λ t. record v { parsed = w.parsed; path = w.path; at = w.at; marked = w.marked; behind = t }) behind
    ∙ ap (λ t. record w { goes_on = t; aside = v.aside; named = v.named; caret = v.caret; changes = v.changes; since = v.since; why = v.why }) goes_on
    ∙ ap (λ t. record w { aside = t; named = v.named; caret = v.caret; changes = v.changes; since = v.since; why = v.why }) aside
    ∙ ap (λ t. record w { named = t; caret = v.caret; changes = v.changes; since = v.since; why = v.why }) named
    ∙ ap (λ t. record w { caret = t; changes = v.changes; since = v.since; why = v.why }) caret
    ∙ ap (λ t. record w { changes = t; since = v.since; why = v.why }) changes
    ∙ ap (λ t. record w { since = t; why = v.why }) since
    ∙ ap (λ t. record w { why = t }) why

-- a row is one, whatever is known of events behind it
pub row_with_events : (file : Option File) (line : Line) (before after : Block) (has_events : Bool)
    → IsRow file line before after → IsRow file line before (record after { has_events = has_events })
row_with_events file line before after has_events (of_snippet text row) =
    of_snippet text
    (record {
      taken = row.taken;
      of_snippet = row.of_snippet;
      gained = record {
        source = row.gained.source;
        of_file = row.gained.of_file;
        quotes = row.gained.quotes;
        tells = row.gained.tells;
        view = row.gained.view;
      };
    })
row_with_events file line before after has_events (of_file parsed view) = of_file parsed view
row_with_events file line before after has_events (of_no_span parsed view) = of_no_span parsed view
row_with_events file line before after has_events (of_message row view) = of_message row view
row_with_events file line before after has_events (for_programs row view) = for_programs row view

-- the file of the first of spans
pub first_path : (ps : List Span) (first : Option (Bor Span)) (path : List ℕ) → option_copied first ≡ slice_get ps 0
    → path ≡ file_at (option_map seen (option_copied first)) → path ≡ first_file (map seen ps)
first_path ps first path is so =
    so ∙ ap file_at (ap (option_map seen) is ∙ sym (first_mapped seen ps))

-- there is something, whether it is lent or not
pub some_copied : {A : Type 0} (o : Option (Bor A)) → is_some (option_copied o) ≡ is_some o
some_copied None = refl
some_copied (Some x) = refl

-- the line of the first of spans
pub first_line_is : (ps : List Span) (first : Option (Bor Span)) → option_copied first ≡ slice_get ps 0
    → line_at (option_map seen (option_copied first)) ≡ first_line (map seen ps)
first_line_is ps first is = ap line_at (ap (option_map seen) is ∙ sym (first_mapped seen ps))

-- how the message of a head about the first of spans goes on
pub first_goes_on : (head : List ℕ) (ps : List Span) (first : Option (Bor Span)) → option_copied first ≡ slice_get ps 0
    → behind_head head (option_map seen (option_copied first)) ≡ behind_head head (slice_get (map seen ps) 0)
first_goes_on head ps first is = ap (behind_head head) (ap (option_map seen) is ∙ sym (first_mapped seen ps))
