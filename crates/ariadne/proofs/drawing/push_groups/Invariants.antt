-- The groups so far are drawn.
use Rattle.std.proofs.Common.{◌≡◌, ◌-◌, List, Some, length, map, take, Bor}
use Rattle.std.specs.Prelude.{slice_get}
use Rattle.std.specs.List.{enumerate_from}
use Rattle.ariadne_base.specs.Listing.{listed_lines}
use Rattle.ariadne_picture.specs.Canvas.{group_source, section_of, texts_of}
use Rattle.ariadne_picture.specs.Lists.{joined}
use Rattle.ariadne_picture.specs.Pieces.{section_rows}
use Rattle.ariadne_picture.specs.declared.label_info.LabelInfo.{LabelInfo}
use Rattle.ariadne_render.specs.Pages.{DrawsRows}
use Rattle.ariadne_render.specs.LongLines.{IsRemembered}
use Rattle.ariadne_report.specs.CacheReads.{world}
use Rattle.ariadne.proofs.drawing.push_groups.Given as goal

abbrev pub invariant-loop-index : goal.invariant-loop-index
invariant-loop-index g l =
    let w = world g.S.Span.source_of g.S.Span.start_of g.S.Span.end_of g.S.SourceId.PartialEq.eq (g.C.Cache.names l.cache)
    (g.C.Cache.contents l.cache) in
    let gs = map (λ (x : Bor (List LabelInfo)). x.now) l.groups in
    record {
      page : l.writer.pen.page ≡ l.fn.writer.pen.page;
      one_page : l.writer.gutter.page ≡ l.writer.pen.page;
      known : (before : List LabelInfo) → slice_get gs (l.index - 1) ≡ Some before
          → IsRemembered (listed_lines (group_source w l.report before)) l.lists.long_line;
      drawn : DrawsRows l.fn.writer.pen l.writer.pen
          (joined (λ e. section_rows (texts_of l.report) l.fn.writer.pen.page.number_width (section_of w l.report (length gs) e)) (take l.index (enumerate_from 0 gs)));
    }
