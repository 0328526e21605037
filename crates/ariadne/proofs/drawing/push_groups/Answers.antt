-- Each group is the next of all, and its rows follow those of the groups before it.
use Rattle.std.proofs.Common.{◌≡◌, ◌∙◌, ◌+◌, ◌-◌, ◌<◌, ◌≤◌, List, [], false, get_or, length, map, ap, arith, refl, subst, sym, Bor, Some}
use Rattle.std.specs.Prelude.{pos, slice_get}
use Rattle.std.proofs.lemmas.List.{length-map}
use Rattle.std.proofs.lemmas.Option.{slice_get-get_or}
use Rattle.ariadne_base.specs.Listing.{listed_lines}
use Rattle.ariadne_picture.specs.Canvas.{group_source, same_source, section_of, texts_of}
use Rattle.ariadne_picture.specs.Lists.{joined}
use Rattle.ariadne_picture.specs.Pieces.{section_rows}
use Rattle.ariadne_picture.specs.declared.label_info.LabelInfo.{LabelInfo}
use Rattle.ariadne_layout.proofs.Listing.{all-enumerated}
use Rattle.ariadne_layout.specs.Snippets.{SnippetFields}
use Rattle.ariadne_render.specs.Pages.{DrawsRows, PageFields}
use Rattle.ariadne_render.proofs.Drawn.{draws_rows_none, rows_page}
use Rattle.ariadne_render.specs.LongLines.{IsRemembered}
use Rattle.ariadne_report.specs.CacheReads.{world}
use Rattle.ariadne_report.specs.DrawnGroups.{IsGroup}
use Rattle.ariadne_report.proofs.Grouping.{all_mapped, mapped_at, some_label}
use Rattle.ariadne_report.proofs.GroupingSources.{first_there}
use Rattle.ariadne_report.proofs.GroupParts.{section_labels, section_lines, section_switches}
use Rattle.ariadne.proofs.WholePictures.{rows_more}
use Rattle.ariadne.proofs.drawing.push_groups.Goals as goal

-- what stands in place of no group
abbrev no_group : Bor (List LabelInfo)
no_group = record { ref_ptr = (0, 0); now = [] }

-- and in place of no label
abbrev no_label : LabelInfo
no_label = record {
  position = 0;
  start = 0;
  end = 0;
  start_line = 0;
  start_place = 0;
  end_line = 0;
  end_place = 0;
  attach = 0;
  order = pos 0;
  priority = pos 0;
  has_message = false;
}

-- no row is written
pub loop-index-init : goal.loop-index-init
unfolding joined
loop-index-init g c = record {
  page = refl;
  one_page = c.requires.writer.one_page;
  known = λ before there. tt;
  drawn = draws_rows_none c.args.writer.now.pen;
}

-- ---- what is remembered

-- the group before has a label
pub bounds-before-0 : goal.bounds-before-0
bounds-before-0 g c =
    let w = world g.S.Span.source_of g.S.Span.start_of g.S.Span.end_of g.S.SourceId.PartialEq.eq (g.C.Cache.names c.args.cache.now)
    (g.C.Cache.contents c.args.cache.now) in
    let r = c.args.report.now in
    let groups = c.args.groups.now in
    let k = c.saturating_sub.result in
    let less : k < length groups = omega (arith, c.saturating_sub.ensures) in
    let before : IsGroup w r (get_or groups k no_group).now = all_mapped (λ (x : Bor (List LabelInfo)). x.now) (IsGroup w r) groups k no_group less c.requires.groups in
    some_label (same_source w r) (get_or groups k no_group).now before.whole

-- so has the group
pub bounds-group-0 : goal.bounds-group-0
bounds-group-0 g c =
    let w = world g.S.Span.source_of g.S.Span.start_of g.S.Span.end_of g.S.SourceId.PartialEq.eq (g.C.Cache.names c.args.cache.now)
    (g.C.Cache.contents c.args.cache.now) in
    let r = c.args.report.now in
    let groups = c.args.groups.now in
    let k = c.loop-index.index in
    let less : k < length groups = omega arith in
    let here : IsGroup w r (get_or groups k no_group).now = all_mapped (λ (x : Bor (List LabelInfo)). x.now) (IsGroup w r) groups k no_group less c.requires.groups in
    some_label (same_source w r) (get_or groups k no_group).now here.whole

-- the label of the group before is there
pub forget_of_other_source-requires-clause-before : goal.forget_of_other_source-requires-clause-before
forget_of_other_source-requires-clause-before g c =
    let w = world g.S.Span.source_of g.S.Span.start_of g.S.Span.end_of g.S.SourceId.PartialEq.eq (g.C.Cache.names c.args.cache.now)
    (g.C.Cache.contents c.args.cache.now) in
    let r = c.args.report.now in
    let groups = c.args.groups.now in
    let k = c.saturating_sub.result in
    let less : k < length groups = omega (arith, c.saturating_sub.ensures) in
    let before : IsGroup w r (get_or groups k no_group).now = all_mapped (λ (x : Bor (List LabelInfo)). x.now) (IsGroup w r) groups k no_group less c.requires.groups in
    first_there w r (get_or groups k no_group).now no_label before

-- so is that of the group
pub forget_of_other_source-requires-clause-first : goal.forget_of_other_source-requires-clause-first
forget_of_other_source-requires-clause-first g c =
    let w = world g.S.Span.source_of g.S.Span.start_of g.S.Span.end_of g.S.SourceId.PartialEq.eq (g.C.Cache.names c.args.cache.now)
    (g.C.Cache.contents c.args.cache.now) in
    let r = c.args.report.now in
    let groups = c.args.groups.now in
    let k = c.loop-index.index in
    let less : k < length groups = omega arith in
    let here : IsGroup w r (get_or groups k no_group).now = all_mapped (λ (x : Bor (List LabelInfo)). x.now) (IsGroup w r) groups k no_group less c.requires.groups in
    first_there w r (get_or groups k no_group).now no_label here

-- ---- the group

-- it is one of those that are drawn
pub resolve-snippet-requires-clause-group : goal.resolve-snippet-requires-clause-group
resolve-snippet-requires-clause-group g c =
    let w = world g.S.Span.source_of g.S.Span.start_of g.S.Span.end_of g.S.SourceId.PartialEq.eq (g.C.Cache.names c.args.cache.now)
    (g.C.Cache.contents c.args.cache.now) in
    let groups = c.args.groups.now in
    let less : c.loop-index.index < length groups = omega arith in
    all_mapped (λ (x : Bor (List LabelInfo)). x.now) (IsGroup w c.args.report.now) groups c.loop-index.index no_group less c.requires.groups

-- its switches are those of the page, and what is remembered is of its source
pub push_snippet-requires : goal.push_snippet-requires
push_snippet-requires g c =
    let w = world g.S.Span.source_of g.S.Span.start_of g.S.Span.end_of g.S.SourceId.PartialEq.eq (g.C.Cache.names c.args.cache.now)
    (g.C.Cache.contents c.args.cache.now) in
    let r = c.args.report.now in
    let groups = c.args.groups.now in
    let inv = c.loop-index.invariant in
    let gs = map (λ (x : Bor (List LabelInfo)). x.now) groups in
    let k = c.saturating_sub.result in
    let n = c.loop-index.index in
    let high : n < length groups = omega arith in
    let less : k < length groups = omega (arith, high, c.saturating_sub.ensures) in
    let old = (get_or groups k no_group).now in
    let new = (get_or groups n no_group).now in
    let before : IsGroup w r old = all_mapped (λ (x : Bor (List LabelInfo)). x.now) (IsGroup w r) groups k no_group less c.requires.groups in
    let here : IsGroup w r new = all_mapped (λ (x : Bor (List LabelInfo)). x.now) (IsGroup w r) groups n no_group high c.requires.groups in
    let there : slice_get gs (n - 1) ≡ Some old =
    ap (slice_get gs) (sym c.saturating_sub.ensures) ∙ mapped_at (λ (x : Bor (List LabelInfo)). x.now) groups k no_group less in
    let made = c.resolve-snippet.ensures.made in
    record {
      ready = record {
        is_snippet = c.resolve-snippet.ensures.is;
        labels = c.in_ok-fill.ensures.ok
            ∙ (λ i. record { labels = sym (section_labels w r (length groups) n new) i; line = 0 })
            ∙ ap (λ (v : SnippetFields). record { labels = v.section.sheet.labels; line = 0 }) (sym made);
        one_page = inv.one_page;
        switches = ap (λ (v : SnippetFields). v.section.sheet.switches) made ∙ section_switches w r (length groups) n new
            ∙ sym c.requires.writer.switches ∙ ap (λ (p : PageFields). p.switches) (sym inv.page);
        known = subst (λ (ls : List (List _)). IsRemembered ls c.forget_of_other_source.new.long)
            (sym (ap (λ (v : SnippetFields). v.section.sheet.lines) made ∙ section_lines w r (length groups) n new))
            (c.forget_of_other_source.ensures (g.C.Cache.names c.args.cache.now) (g.C.Cache.contents c.args.cache.now) old new
            (slice_get-get_or old 0 no_label (some_label (same_source w r) old before.whole))
            (slice_get-get_or new 0 no_label (some_label (same_source w r) new here.whole)) (inv.known old there));
      };
    }

-- the rows of one group more
pub loop-index-preserved : goal.loop-index-preserved
loop-index-preserved g c =
    let w = world g.S.Span.source_of g.S.Span.start_of g.S.Span.end_of g.S.SourceId.PartialEq.eq (g.C.Cache.names c.args.cache.now)
    (g.C.Cache.contents c.args.cache.now) in
    let r = c.args.report.now in
    let groups = c.args.groups.now in
    let inv = c.loop-index.invariant in
    let gs = map (λ (x : Bor (List LabelInfo)). x.now) groups in
    let width = c.args.writer.now.pen.page.number_width in
    let b = c.loop-index.writer.pen in
    let z = c.push_snippet.new.writer.pen in
    let k = c.loop-index.index in
    let less : k < length groups = omega arith in
    let new = (get_or groups k no_group).now in
    let there : slice_get gs k ≡ Some new = mapped_at (λ (x : Bor (List LabelInfo)). x.now) groups k no_group less in
    let size : length groups ≡ length gs = sym (length-map groups (λ (x : Bor (List LabelInfo)). x.now)) in
    let made = c.resolve-snippet.ensures.made in
    let drawn = c.in_ok-push_snippet.ensures.drawn in
    let own : DrawsRows b z (section_rows (texts_of r) b.page.number_width (section_of w r (length groups) (k, new))) =
    subst (λ (v : SnippetFields). DrawsRows b z (section_rows v.texts b.page.number_width v.section)) made drawn in
    let next : DrawsRows b z (section_rows (texts_of r) width (section_of w r (length gs) (k, new))) =
    subst (λ n. DrawsRows b z (section_rows (texts_of r) width (section_of w r n (k, new)))) size
    (subst (λ (p : PageFields). DrawsRows b z (section_rows (texts_of r) p.number_width (section_of w r (length groups) (k, new)))) inv.page own) in
    record {
      page = rows_page b z _ drawn ∙ inv.page;
      one_page = c.in_ok-push_snippet.ensures.at.one_page;
      known = λ before at.
          let last : k + 1 - 1 ≡ k = omega arith in
          let found : Some new ≡ Some before = sym there ∙ ap (slice_get gs) (sym last) ∙ at in
          let same : new ≡ before = cc in
          let lines = ap (λ (v : SnippetFields). v.section.sheet.lines) made ∙ section_lines w r (length groups) k new in
          subst (λ (ls : List LabelInfo). IsRemembered (listed_lines (group_source w r ls)) c.push_snippet.new.lists.long_line) same
          (subst (λ (ls : List (List _)). IsRemembered ls c.push_snippet.new.lists.long_line) lines c.in_ok-push_snippet.ensures.known);
      drawn =
          rows_more (λ e. section_rows (texts_of r) width (section_of w r (length gs) e)) k c.args.writer.now.pen b z gs new there inv.drawn next;
    }

-- no group is left
pub returns : goal.returns
returns g c =
    let w = world g.S.Span.source_of g.S.Span.start_of g.S.Span.end_of g.S.SourceId.PartialEq.eq (g.C.Cache.names c.args.cache.now)
    (g.C.Cache.contents c.args.cache.now) in
    let r = c.args.report.now in
    let gs = map (λ (x : Bor (List LabelInfo)). x.now) c.args.groups.now in
    let size = length-map c.args.groups.now (λ (x : Bor (List LabelInfo)). x.now) in
    let all : length gs ≤ c.loop-index.index = omega arith in
    subst (λ es. DrawsRows c.args.writer.now.pen c.loop-index.writer.pen
    (joined (λ e. section_rows (texts_of r) c.args.writer.now.pen.page.number_width (section_of w r (length gs) e)) es))
    (all-enumerated gs c.loop-index.index all) c.loop-index.invariant.drawn
