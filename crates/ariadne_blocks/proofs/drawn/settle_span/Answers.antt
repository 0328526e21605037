use Rattle.std.proofs.Common.{◌∙◌, ◌++◌, ap, Some, None}
use Rattle.std.specs.Prelude.{map, option_map}
use Rattle.std.specs.Option.{option_copied}
use Rattle.ariadne_parse.specs.Spans.{seen}
use Rattle.ariadne_blocks.specs.MarkedLocations.{are_at, marks_of}
use Rattle.ariadne_blocks.proofs.Settled.{found_first, is_open, settled_by}
use Rattle.ariadne_blocks.proofs.drawn.settle_span.Goals as goal

-- some were found
pub returns-in-Some : goal.returns-in-Some
returns-in-Some c =
    let span = seen c.args.span.now in
    settled_by (map marks_of c.args.own.now ++ map marks_of c.args.drawn.now) span (Some (marks_of c.in-Some.found.now))
    (is_open span.marks span.caret.column c.is_some.result c.is_none.result c.is_some.ensures c.is_none.ensures
    c.if-is_some.false c.if-is_none.false)
    (found_first (are_at span) c.args.own.now c.args.drawn.now c.marks_at.result c.marks_at-2.result c.or.result
    c.marks_at.ensures c.marks_at-2.ensures c.or.ensures
    ∙ ap (λ o. option_map marks_of (option_copied o)) c.in-Some.is)

-- none were
pub returns-in_default : goal.returns-in_default
returns-in_default c =
    let span = seen c.args.span.now in
    settled_by (map marks_of c.args.own.now ++ map marks_of c.args.drawn.now) span None
    (is_open span.marks span.caret.column c.is_some.result c.is_none.result c.is_some.ensures c.is_none.ensures
    c.if-is_some.false c.if-is_none.false)
    (found_first (are_at span) c.args.own.now c.args.drawn.now c.marks_at.result c.marks_at-2.result c.or.result
    c.marks_at.ensures c.marks_at-2.ensures c.or.ensures
    ∙ ap (λ o. option_map marks_of (option_copied o)) c.in_default.is)
