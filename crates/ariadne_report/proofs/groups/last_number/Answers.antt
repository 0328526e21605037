-- The number of a group's last line, in the source of its first label.
use Rattle.std.proofs.Common.{◌∙◌, ◌+◌, ap, arith, length, refl, sym}
use Rattle.std.specs.Option.{option_copied}
use Rattle.ariadne_base.specs.Listing.{Listing, listed_lines}
use Rattle.ariadne_picture.specs.Canvas.{sheet_of}
use Rattle.ariadne_picture.specs.declared.switches.Switches.{Switches}
use Rattle.ariadne_picture.specs.Groups.{printed_number}
use Rattle.ariadne_picture.specs.Report.{switches_of}
use Rattle.ariadne_report.specs.CacheReads.{world}
use Rattle.ariadne_report.proofs.Grouping.{some_label}
use Rattle.ariadne_report.proofs.GroupParts.{first_found, first_is}
use Rattle.ariadne_report.proofs.GroupingSources.{first_there, last_inside, last_told, one_source}
use Rattle.ariadne_report.proofs.groups.last_number.Goals as goal

-- the first label is there
pub bounds-group-0 : goal.bounds-group-0
bounds-group-0 g c = some_label _ c.args.group.now c.requires.group.whole

-- the first label is one of the report, and its source is held
pub bounds-labels-first : goal.bounds-labels-first
bounds-labels-first g c =
    let w = world g.S.Span.source_of g.S.Span.start_of g.S.Span.end_of g.S.SourceId.PartialEq.eq (g.C.Cache.names c.args.cache.now)
    (g.C.Cache.contents c.args.cache.now) in
    rw c.labels.ensures (first_there w c.args.report.now c.args.group.now _ c.requires.group)

pub unwrap-source-requires : goal.unwrap-source-requires
unwrap-source-requires g c =
    let w = world g.S.Span.source_of g.S.Span.start_of g.S.Span.end_of g.S.SourceId.PartialEq.eq (g.C.Cache.names c.args.cache.now)
    (g.C.Cache.contents c.args.cache.now) in
    let group = c.args.group.now in
    first_found w c.args.report.now group _ (some_label _ group c.requires.group.whole) c.requires.group.drawn c.labels.result.now
    c.index-labels-first.result c.labels.ensures c.index-labels-first.is c.source-id.result.now
    (c.source-id.ensures ∙ ap g.S.Span.source_of c.span.ensures.span) c.get.result c.get.ensures

-- a line of the source has a number that fits
pub overflow_add-result : goal.overflow_add-result
overflow_add-result g c =
    let w = world g.S.Span.source_of g.S.Span.start_of g.S.Span.end_of g.S.SourceId.PartialEq.eq (g.C.Cache.names c.args.cache.now)
    (g.C.Cache.contents c.args.cache.now) in
    let r = c.args.report.now in
    let group = c.args.group.now in
    let one = one_source g.S.SourceId.PartialEq.eq g.met.S.SourceId.Eq.laws (g.C.Cache.contents c.args.cache.now) in
    let first =
    first_is w r group group _ refl (some_label _ group c.requires.group.whole) c.requires.group.drawn c.labels.result.now c.index-labels-first.result
    c.labels.ensures c.index-labels-first.is c.source-id.result.now (c.source-id.ensures ∙ ap g.S.Span.source_of c.span.ensures.span)
    (option_copied c.get.result) c.get.ensures c.unwrap-source.result.now (ap option_copied c.unwrap-source.ensures) in
    let context = ap (λ (w : Switches). w.context_lines) (sym (c.switches-context.ensures.switches ∙ ap switches_of c.config.ensures)) in
    let size = ap (λ (s : Listing). length (listed_lines s)) first.over ∙ sym c.number_of_lines.ensures.number in
    let is = last_told (sheet_of w r group) _ _ _ context size c.last_line-last.ensures in
    let last = last_inside w r one group c.requires.group in
    let fits = c.number_of_lines.ensures.fits in
    omega (arith, last, is, size, fits)

-- so it does with the display offset
pub overflow_add-result-2 : goal.overflow_add-result-2
overflow_add-result-2 g c =
    let w = world g.S.Span.source_of g.S.Span.start_of g.S.Span.end_of g.S.SourceId.PartialEq.eq (g.C.Cache.names c.args.cache.now)
    (g.C.Cache.contents c.args.cache.now) in
    let r = c.args.report.now in
    let group = c.args.group.now in
    let one = one_source g.S.SourceId.PartialEq.eq g.met.S.SourceId.Eq.laws (g.C.Cache.contents c.args.cache.now) in
    let first =
    first_is w r group group _ refl (some_label _ group c.requires.group.whole) c.requires.group.drawn c.labels.result.now c.index-labels-first.result
    c.labels.ensures c.index-labels-first.is c.source-id.result.now (c.source-id.ensures ∙ ap g.S.Span.source_of c.span.ensures.span)
    (option_copied c.get.result) c.get.ensures c.unwrap-source.result.now (ap option_copied c.unwrap-source.ensures) in
    let context = ap (λ (w : Switches). w.context_lines) (sym (c.switches-context.ensures.switches ∙ ap switches_of c.config.ensures)) in
    let size = ap (λ (s : Listing). length (listed_lines s)) first.over ∙ sym c.number_of_lines.ensures.number in
    let is = last_told (sheet_of w r group) _ _ _ context size c.last_line-last.ensures in
    let last = last_inside w r one group c.requires.group in
    let fits = c.number_of_lines.ensures.fits in
    let offset = c.display_line_offset.ensures.offset in
    omega (arith, last, is, size, fits, offset)

-- it is that of the group's source
pub returns : goal.returns
unfolding printed_number
returns g c =
    let w = world g.S.Span.source_of g.S.Span.start_of g.S.Span.end_of g.S.SourceId.PartialEq.eq (g.C.Cache.names c.args.cache.now)
    (g.C.Cache.contents c.args.cache.now) in
    let r = c.args.report.now in
    let group = c.args.group.now in
    let first =
    first_is w r group group _ refl (some_label _ group c.requires.group.whole) c.requires.group.drawn c.labels.result.now c.index-labels-first.result
    c.labels.ensures c.index-labels-first.is c.source-id.result.now (c.source-id.ensures ∙ ap g.S.Span.source_of c.span.ensures.span)
    (option_copied c.get.result) c.get.ensures c.unwrap-source.result.now (ap option_copied c.unwrap-source.ensures) in
    let context = ap (λ (w : Switches). w.context_lines) (sym (c.switches-context.ensures.switches ∙ ap switches_of c.config.ensures)) in
    let size = ap (λ (s : Listing). length (listed_lines s)) first.over ∙ sym c.number_of_lines.ensures.number in
    let is = last_told (sheet_of w r group) _ _ _ context size c.last_line-last.ensures in
    (λ i. is i + 1 + (c.display_line_offset.ensures.offset ∙ ap (λ (s : Listing). s.display_offset) (sym first.over)) i)
