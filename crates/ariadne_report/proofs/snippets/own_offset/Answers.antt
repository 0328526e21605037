-- What is looked up is the place where the report's own span starts.
use Rattle.std.proofs.Common.{◌≡◌, ◌∙◌, ap, arith, subst, sym, Option, None, Some, ℕ}
use Rattle.std.specs.Prelude.{chars}
use Rattle.ariadne_base.specs.Listing.{Listing}
use Rattle.ariadne_picture.specs.Accept.{offset_in_chars}
use Rattle.ariadne_picture.specs.Report.{ConfigFields}
use Rattle.ariadne_report.specs.CacheReads.{world}
use Rattle.ariadne_report.specs.HeaderPlaces.{own_offset}
use Rattle.ariadne_report.proofs.HeaderLocations.{own_found, own_none, own_past}
use Rattle.ariadne_report.proofs.snippets.own_offset.Given.{Over}
use Rattle.ariadne_report.proofs.snippets.own_offset.Goals.{In_ok-offset}
use Rattle.ariadne_report.proofs.snippets.own_offset.Goals as goal

-- the source isn't held
pub returns-in_err-source : goal.returns-in_err-source
returns-in_err-source g c = λ source held.
    let w = world g.S.Span.source_of g.S.Span.start_of g.S.Span.end_of g.S.SourceId.PartialEq.eq (g.C.Cache.names c.args.cache.now)
    (g.C.Cache.contents c.args.cache.now) in
    let none : None ≡ Some source = c.in_err-source.ensures ∙ ap w.source_of (c.source.ensures ∙ ap g.S.Span.source_of c.span.ensures) ∙ held in
    cc

-- the start lies inside a character
pub returns-in_err-offset : goal.returns-in_err-offset
returns-in_err-offset g c = λ source held.
    let w = world g.S.Span.source_of g.S.Span.start_of g.S.Span.end_of g.S.SourceId.PartialEq.eq (g.C.Cache.names c.args.cache.now)
    (g.C.Cache.contents c.args.cache.now) in
    let r = c.args.report.now in
    let at : Some c.in_ok-source.source.now ≡ Some source = c.in_ok-source.ensures
    ∙ ap w.source_of (c.source.ensures ∙ ap g.S.Span.source_of c.span.ensures) ∙ held in
    let same : c.in_ok-source.source.now ≡ source = cc in
    let index = c.index_type.ensures ∙ ap (λ (k : ConfigFields). k.index_type) c.config.ensures in
    let start = c.start.ensures ∙ ap g.S.Span.start_of c.span-2.ensures in
    let found = c.in_err-offset.ensures ∙ (λ i. offset_in_chars (index i) (chars (same i).text) (start i)) in
    c.from_residual-in_err-offset.ensures ∙ sym (own_none w r source found)

-- ---- it lies inside none

-- the source that was found is that of the span
here : (g : Over) (c : In_ok-offset g) (source : Listing)
    → (world g.S.Span.source_of g.S.Span.start_of g.S.Span.end_of g.S.SourceId.PartialEq.eq (g.C.Cache.names c.args.cache.now)
    (g.C.Cache.contents c.args.cache.now)).source_of (g.S.Span.source_of c.args.report.now.span) ≡ Some source → c.in_ok-source.source.now ≡ source
here g c source held =
    let w = world g.S.Span.source_of g.S.Span.start_of g.S.Span.end_of g.S.SourceId.PartialEq.eq (g.C.Cache.names c.args.cache.now)
    (g.C.Cache.contents c.args.cache.now) in
    let at : Some c.in_ok-source.source.now ≡ Some source = c.in_ok-source.ensures
    ∙ ap w.source_of (c.source.ensures ∙ ap g.S.Span.source_of c.span.ensures) ∙ held in
    cc

-- so the offset is that of its start
found : (g : Over) (c : In_ok-offset g)
    → Some c.in_ok-offset.offset
    ≡ offset_in_chars c.args.report.now.config.index_type (chars c.in_ok-source.source.now.text) (g.S.Span.start_of c.args.report.now.span)
found g c =
    let index = c.index_type.ensures ∙ ap (λ (k : ConfigFields). k.index_type) c.config.ensures in
    let start = c.start.ensures ∙ ap g.S.Span.start_of c.span-2.ensures in
    c.in_ok-offset.ensures ∙ (λ i. offset_in_chars (index i) (chars c.in_ok-source.source.now.text) (start i))

-- it is no greater than the source
pub returns-then-offset-len : goal.returns-then-offset-len
returns-then-offset-len g c = λ source held.
    let w = world g.S.Span.source_of g.S.Span.start_of g.S.Span.end_of g.S.SourceId.PartialEq.eq (g.C.Cache.names c.args.cache.now)
    (g.C.Cache.contents c.args.cache.now) in
    let r = c.args.report.now in
    let b = (goal.at.returns-then-offset-len g c).In_ok-offset in
    let few = c.if-offset-len.true in
    let long = c.len.ensures in
    subst (λ (s : Listing). Some c.in_ok-offset.offset ≡ own_offset w r s) (here g b source held)
    (own_found w r c.in_ok-source.source.now c.in_ok-offset.offset (found g b) (omega (arith, few, long)))

-- it is
pub returns-else-offset-len : goal.returns-else-offset-len
returns-else-offset-len g c = λ source held.
    let w = world g.S.Span.source_of g.S.Span.start_of g.S.Span.end_of g.S.SourceId.PartialEq.eq (g.C.Cache.names c.args.cache.now)
    (g.C.Cache.contents c.args.cache.now) in
    let r = c.args.report.now in
    let b = (goal.at.returns-else-offset-len g c).In_ok-offset in
    let more = c.if-offset-len.false in
    let long = c.len.ensures in
    let none : Option ℕ = None in
    subst (λ (s : Listing). none ≡ own_offset w r s) (here g b source held)
    (sym (own_past w r c.in_ok-source.source.now c.in_ok-offset.offset (sym (found g b)) (omega (arith, more, long))))
