-- The tests of the two ends are those of the verdict, and so are the ends in characters.
use Rattle.std.proofs.Common.{◌≡◌, inl, inr, arith, Some, None}
use Rattle.std.specs.Prelude.{chars}
use Rattle.ariadne_picture.specs.Accept.{offset_in_chars}
use Rattle.ariadne_report.proofs.Accepting.{verdict_past, verdict_accepted, verdict_cut_start, verdict_cut_end, ends_in_order}
use Rattle.ariadne_report.proofs.accept.judge.Goals as goal
use Rattle.ariadne_report.proofs.accept.judge.Goals.{then-start-size-via-then-start-size, then-start-size-via-else-start-size+then-saturating_sub-gt1}

-- one of the tests holds
pub returns-then-start-size-clause-verdict : goal.returns-then-start-size-clause-verdict
returns-then-start-size-clause-verdict g c =
    let start : c.start-start.result ≡ g.S.Span.start_of c.args.label.now.span = rw c.span.ensures.span at c.start-start.ensures in
    let end : c.end-end.result ≡ g.S.Span.end_of c.args.label.now.span = rw c.span-2.ensures.span at c.end-end.ensures in
    verdict_past _ _ _ _ _ _ _ _ _ _ c.index_type-index_type.ensures c.requires.size start end
    (elim c.then-start-size.branch [
      | then-start-size-via-then-start-size w ↦ inl (omega arith)
      | then-start-size-via-else-start-size+then-saturating_sub-gt1 w ↦ inr (omega arith)
    ])

-- the start lies inside a character
pub returns-in_default-clause-verdict : goal.returns-in_default-clause-verdict
returns-in_default-clause-verdict g c =
    let start : c.start-start.result ≡ g.S.Span.start_of c.args.label.now.span = rw c.span.ensures.span at c.start-start.ensures in
    let end : c.end-end.result ≡ g.S.Span.end_of c.args.label.now.span = rw c.span-2.ensures.span at c.end-end.ensures in
    let none : None ≡ offset_in_chars c.index_type-index_type.result (chars c.args.source.now.text) c.start-start.result =
    rw c.in_default.is at c.counted_in_chars.ensures.offset in
    verdict_cut_start _ _ _ _ _ _ _ _ _ _ c.index_type-index_type.ensures c.requires.size start end
    c.if-start-size.false (omega arith) none

-- the end lies inside a character
pub returns-in_default-counted_in_chars-clause-verdict : goal.returns-in_default-counted_in_chars-clause-verdict
returns-in_default-counted_in_chars-clause-verdict g c =
    let start : c.start-start.result ≡ g.S.Span.start_of c.args.label.now.span = rw c.span.ensures.span at c.start-start.ensures in
    let end : c.end-end.result ≡ g.S.Span.end_of c.args.label.now.span = rw c.span-2.ensures.span at c.end-end.ensures in
    let some : Some c.in-Some.start ≡ offset_in_chars c.index_type-index_type.result (chars c.args.source.now.text) c.start-start.result =
    rw c.in-Some.is at c.counted_in_chars.ensures.offset in
    let none : None ≡ offset_in_chars c.index_type-index_type.result (chars c.args.source.now.text) c.min.result =
    rw c.in_default-counted_in_chars.is at c.counted_in_chars-2.ensures.offset in
    verdict_cut_end _ _ _ _ _ _ _ _ _ _ c.index_type-index_type.ensures c.requires.size start end
    c.if-start-size.false (omega arith) _ some _ c.min.ensures none

-- both ends are behind whole characters of the source, in order
pub label_info-requires : goal.label_info-requires
label_info-requires g c =
    let start : c.start-start.result ≡ g.S.Span.start_of c.args.label.now.span = rw c.span.ensures.span at c.start-start.ensures in
    let end : c.end-end.result ≡ g.S.Span.end_of c.args.label.now.span = rw c.span-2.ensures.span at c.end-end.ensures in
    let some : Some c.in-Some.start ≡ offset_in_chars c.index_type-index_type.result (chars c.args.source.now.text) c.start-start.result =
    rw c.in-Some.is at c.counted_in_chars.ensures.offset in
    let also : Some c.in-Some-counted_in_chars.end ≡ offset_in_chars c.index_type-index_type.result (chars c.args.source.now.text) c.min.result =
    rw c.in-Some-counted_in_chars.is at c.counted_in_chars-2.ensures.offset in
    let ends =
    ends_in_order c.args.config c.args.source.now c.args.position c.args.label.now _ _ _ _ _ _ c.index_type-index_type.ensures
    c.requires.size start end c.if-start-size.false (omega arith) _ some _ c.min.ensures _ also c.span.ensures.forward in
    record { forward = ends.0; ends_within = ends.1 }

-- then the label is accepted
pub returns-clause-verdict : goal.returns-clause-verdict
returns-clause-verdict g c =
    let start : c.start-start.result ≡ g.S.Span.start_of c.args.label.now.span = rw c.span.ensures.span at c.start-start.ensures in
    let end : c.end-end.result ≡ g.S.Span.end_of c.args.label.now.span = rw c.span-2.ensures.span at c.end-end.ensures in
    let some : Some c.in-Some.start ≡ offset_in_chars c.index_type-index_type.result (chars c.args.source.now.text) c.start-start.result =
    rw c.in-Some.is at c.counted_in_chars.ensures.offset in
    let also : Some c.in-Some-counted_in_chars.end ≡ offset_in_chars c.index_type-index_type.result (chars c.args.source.now.text) c.min.result =
    rw c.in-Some-counted_in_chars.is at c.counted_in_chars-2.ensures.offset in
    verdict_accepted _ _ _ _ _ _ _ _ _ _ c.index_type-index_type.ensures c.requires.size start end
    c.if-start-size.false (omega arith) _ some _ c.min.ensures _ also _ _ c.label_attach-attach.ensures c.label_info.ensures
