-- The source, the name and the offset of the first label are those of the group.
use Rattle.std.proofs.Common.{◌≡◌, ◌∙◌, ◌≤◌, Bool, Option, Some, ap, false, get_or, inl, inr, length, refl, subst, sym, true, ℕ}
use Rattle.std.specs.Prelude.{IfSome, chars, if◌then◌else◌, pos}
use Rattle.std.specs.Option.{option_copied}
use Rattle.std.proofs.lemmas.Bool.{cases_Bool}
use Rattle.ariadne_base.specs.Listing.{Listing, listed_lines}
use Rattle.ariadne_picture.specs.declared.label_info.LabelInfo.{LabelInfo}
use Rattle.ariadne_picture.specs.Canvas.{header_offset}
use Rattle.ariadne_layout.specs.Snippets.{AreOverLines}
use Rattle.ariadne_report.specs.CacheReads.{world}
use Rattle.ariadne_report.proofs.Grouping.{some_label}
use Rattle.ariadne_report.proofs.GroupParts.{IsFirst, first_found, first_is, section_is, section_name}
use Rattle.ariadne_report.proofs.GroupingSources.{first_there, one_source, over_group}
use Rattle.ariadne_report.proofs.HeaderLocations.{other_offset, own_header, own_within}
use Rattle.ariadne_report.proofs.snippets.resolve.Given.{Over}
use Rattle.ariadne_report.proofs.snippets.resolve.Goals.{After-header_offset-offset}
use Rattle.ariadne_report.proofs.snippets.resolve.Goals as goal

-- what stands in place of no label
abbrev no_label : LabelInfo
no_label = record {
  position = 0;
  start = 0;
  end = 0;
  start_line = 0;
  start_place = 0;
  end_line = 0;
  end_place = 0;
  attach = 0;
  order = pos 0;
  priority = pos 0;
  has_message = false;
}

-- the first label is there
pub bounds-group-0 : goal.bounds-group-0
bounds-group-0 g c = some_label _ c.args.group.now c.requires.group.whole

-- it tells of the group
first : (g : Over) (c : After-header_offset-offset g)
    → IsFirst (world g.S.Span.source_of g.S.Span.start_of g.S.Span.end_of g.S.SourceId.PartialEq.eq (g.C.Cache.names c.args.cache.now)
    (g.C.Cache.contents c.args.cache.now)) c.args.report.now c.args.group.now (get_or c.args.group.now 0 no_label) c.source-id.result.now
    c.unwrap-source.result.now
first g c =
    let w = world g.S.Span.source_of g.S.Span.start_of g.S.Span.end_of g.S.SourceId.PartialEq.eq (g.C.Cache.names c.args.cache.now)
    (g.C.Cache.contents c.args.cache.now) in
    let group = c.args.group.now in
    first_is w c.args.report.now group group no_label refl (some_label _ group c.requires.group.whole) c.requires.group.drawn c.labels.result.now
    c.index-labels-first.result c.labels.ensures c.index-labels-first.is c.source-id.result.now
    (c.source-id.ensures ∙ ap g.S.Span.source_of c.span.ensures.span) (option_copied c.get.result) c.get.ensures c.unwrap-source.result.now
    (ap option_copied c.unwrap-source.ensures)

-- the first label is one of the report, and its source is held
pub bounds-labels-first : goal.bounds-labels-first
bounds-labels-first g c =
    let w = world g.S.Span.source_of g.S.Span.start_of g.S.Span.end_of g.S.SourceId.PartialEq.eq (g.C.Cache.names c.args.cache.now)
    (g.C.Cache.contents c.args.cache.now) in
    rw c.labels.ensures (first_there w c.args.report.now c.args.group.now _ c.requires.group)

pub unwrap-source-requires : goal.unwrap-source-requires
unwrap-source-requires g c =
    let w = world g.S.Span.source_of g.S.Span.start_of g.S.Span.end_of g.S.SourceId.PartialEq.eq (g.C.Cache.names c.args.cache.now)
    (g.C.Cache.contents c.args.cache.now) in
    let group = c.args.group.now in
    first_found w c.args.report.now group _ (some_label _ group c.requires.group.whole) c.requires.group.drawn c.labels.result.now
    c.index-labels-first.result c.labels.ensures c.index-labels-first.is c.source-id.result.now
    (c.source-id.ensures ∙ ap g.S.Span.source_of c.span.ensures.span) c.get.result c.get.ensures

-- where the report's own span is over its source, that is held
own : (g : Over) (c : After-header_offset-offset g)
    → g.S.SourceId.PartialEq.eq c.source-id.result.now (g.S.Span.source_of c.args.report.now.span) ≡ true
    → (world g.S.Span.source_of g.S.Span.start_of g.S.Span.end_of g.S.SourceId.PartialEq.eq (g.C.Cache.names c.args.cache.now)
    (g.C.Cache.contents c.args.cache.now)).source_of (g.S.Span.source_of c.args.report.now.span) ≡ Some c.unwrap-source.result.now
own g c same =
    sym (one_source g.S.SourceId.PartialEq.eq g.met.S.SourceId.Eq.laws (g.C.Cache.contents c.args.cache.now) c.source-id.result.now
    (g.S.Span.source_of c.args.report.now.span) same)
    ∙ sym c.get.ensures ∙ ap option_copied c.unwrap-source.ensures

-- the offset is that of its header
offset : (g : Over) (c : After-header_offset-offset g)
    → c.header_offset-offset.result
    ≡ header_offset (world g.S.Span.source_of g.S.Span.start_of g.S.Span.end_of g.S.SourceId.PartialEq.eq (g.C.Cache.names c.args.cache.now)
    (g.C.Cache.contents c.args.cache.now)) c.args.report.now c.args.group.now
offset g c =
    let w = world g.S.Span.source_of g.S.Span.start_of g.S.Span.end_of g.S.SourceId.PartialEq.eq (g.C.Cache.names c.args.cache.now)
    (g.C.Cache.contents c.args.cache.now) in
    let r = c.args.report.now in
    let group = c.args.group.now in
    let id = c.source-id.result.now in
    let source = c.unwrap-source.result.now in
    let f = first g c in
    let choose : Bool → Option ℕ = λ b. if b then c.args.own else Some (get_or group 0 no_label).start in
    elim (cases_Bool (g.S.SourceId.PartialEq.eq id (g.S.Span.source_of r.span))) [
      | inl same ↦
          c.header_offset-offset.ensures ∙ ap choose same ∙ c.requires.own source (own g c same)
          ∙ sym (own_header w r group id source f.named f.over same)
      | inr other ↦
          c.header_offset-offset.ensures ∙ ap choose other ∙ sym (other_offset w r group id source f.named f.over (get_or group 0 no_label) f.first other)
    ]

-- its labels lie in the lines of its source
pub new-requires-clause-over : goal.new-requires-clause-over
new-requires-clause-over g c =
    let w = world g.S.Span.source_of g.S.Span.start_of g.S.Span.end_of g.S.SourceId.PartialEq.eq (g.C.Cache.names c.args.cache.now)
    (g.C.Cache.contents c.args.cache.now) in
    let one = one_source g.S.SourceId.PartialEq.eq g.met.S.SourceId.Eq.laws (g.C.Cache.contents c.args.cache.now) in
    let f = first g (goal.at.new-requires-clause-over g c).After-header_offset-offset in
    subst (λ (s : Listing). AreOverLines (listed_lines s) c.args.group.now) f.over (over_group w c.args.report.now one c.args.group.now c.requires.group)

-- and so does the offset
pub new-requires-clause-location : goal.new-requires-clause-location
new-requires-clause-location g c =
    let w = world g.S.Span.source_of g.S.Span.start_of g.S.Span.end_of g.S.SourceId.PartialEq.eq (g.C.Cache.names c.args.cache.now)
    (g.C.Cache.contents c.args.cache.now) in
    let r = c.args.report.now in
    let b = (goal.at.new-requires-clause-location g c).After-header_offset-offset in
    let source = c.unwrap-source.result.now in
    let within : Option ℕ → Type 0 = λ o. IfSome o (λ n. n ≤ length (chars source.text)) in
    let choose : Bool → Option ℕ = λ b. if b then c.args.own else Some (get_or c.args.group.now 0 no_label).start in
    elim (cases_Bool (g.S.SourceId.PartialEq.eq c.source-id.result.now (g.S.Span.source_of r.span))) [
      | inl same ↦
          subst within (sym (c.header_offset-offset.ensures ∙ ap choose same))
          (own_within w r source c.args.own (c.requires.own source (own g b same)))
      | inr other ↦ subst within (sym (c.header_offset-offset.ensures ∙ ap choose other)) (first g b).starts
    ]

-- so the snippet is that of the group
pub returns-clause-made : goal.returns-clause-made
returns-clause-made g c =
    let w = world g.S.Span.source_of g.S.Span.start_of g.S.Span.end_of g.S.SourceId.PartialEq.eq (g.C.Cache.names c.args.cache.now)
    (g.C.Cache.contents c.args.cache.now) in
    let r = c.args.report.now in
    let group = c.args.group.now in
    let b = (goal.at.returns-clause-made g c).After-header_offset-offset in
    let f = first g b in
    c.new.ensures.made
    ∙ section_is w r c.args.number c.args.index group c.args.texts.now c.unwrap-source.result.now c.unwrap_or-name.result.now c.header_offset-offset.result
    c.requires.texts (sym f.over)
    (section_name w r group c.source-id.result.now f.named c.display.result c.display.ensures _ c.unwrap_or-name.result refl c.unwrap_or-name.ensures)
    (offset g b)
