-- The rows above the lines, the lines, and the rows below them.
use Rattle.std.proofs.Common.{◌≡◌, ◌∙◌, ap, arith, false, length, map, refl, replicate, sym}
use Rattle.std.proofs.lemmas.Result.{on_ok_weaker}
use Rattle.ariadne_picture.specs.declared.label_info.LabelInfo.{LabelInfo}
use Rattle.ariadne_picture.specs.Ranks.{Sheet, gutter_labels}
use Rattle.ariadne_layout.specs.SnippetLabels.{LabelsFields}
use Rattle.ariadne_layout.specs.Snippets.{sheet_in}
use Rattle.ariadne_render.specs.Pages.{PageFields}
use Rattle.ariadne_render.proofs.Drawn.{rows_page}
use Rattle.ariadne_render.specs.Gutters.{GutterFields}
use Rattle.ariadne_render.proofs.GutterSteps.{first-line}
use Rattle.ariadne_render.proofs.GroupRows.{whole_group}
use Rattle.ariadne_render.proofs.frames.push_snippet.Goals as goal

-- the switches are those of the page
pub push_head-requires : goal.push_head-requires
push_head-requires g c = record { switches = c.requires.ready.switches }

-- the lists are at the first line
pub push_lines-requires : goal.push_lines-requires
push_lines-requires g c =
    let s : Sheet = sheet_in c.args.snippet.now in
    let ready = c.requires.ready in
    let begun = c.in_ok-begin.ensures in
    let own : c.args.lists.now.sheet.labels ≡ s.labels = ap (λ (x : LabelsFields). x.labels) ready.labels in
    let line : c.args.lists.now.sheet.line ≡ 0 = ap (λ (x : LabelsFields). x.line) ready.labels in
    let shown : c.gutter_labels.result.now ≡ gutter_labels s.labels = c.gutter_labels.ensures ∙ ap gutter_labels own in
    let page = ap (λ (x : GutterFields). x.page) begun ∙ ready.one_page in
    record {
      at = record {
        above = record {
          is_snippet = ready.is_snippet;
          one_page = page ∙ sym (rows_page c.args.writer.now.pen c.push_head.new.pen _ c.in_ok-push_head.ensures);
          bars = first-line s c.begin.new.self
              (record {
                switches = ap (λ (p : PageFields). p.switches) page ∙ sym ready.switches;
                positions = ap (λ (x : GutterFields). x.positions) begun ∙ ap (map (λ (a : LabelInfo). a.position)) shown;
              })
              (ap (λ (x : GutterFields). x.bars) begun ∙ ap (λ ls. replicate (length ls) false) shown);
        };
        labels = own;
        onward = omega (arith, line);
        known = ready.known;
      };
    }

-- below the lines the gutter is still that of the snippet
pub push_foot-requires : goal.push_foot-requires
push_foot-requires g c =
    let above = c.in_ok-push_lines.ensures.at.above in
    record { at = record { is_snippet = above.is_snippet; one_page = above.one_page; gutter = above.bars.sheet } }

-- what is remembered is of the snippet
pub returns-clause-known : goal.returns-clause-known
returns-clause-known g c = on_ok_weaker c.push_foot.result (λ _. c.in_ok-push_lines.ensures.at.known) c.push_foot.ensures.at

-- the rows stand one after another
pub returns-clause-drawn : goal.returns-clause-drawn
returns-clause-drawn g c =
    let v = c.args.snippet.now in
    on_ok_weaker c.push_foot.result
    (whole_group v.texts v.section c.args.writer.now.pen c.push_head.new.pen c.push_lines.new.writer.pen c.push_foot.new.writer.pen v.section.is_last
    c.requires.ready.switches refl c.in_ok-push_head.ensures c.in_ok-push_lines.ensures.drawn)
    c.push_foot.ensures.drawn
