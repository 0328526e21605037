-- The helps and the notes of the last group, and the tail.
use Rattle.std.proofs.Common.{◌∙◌, ◌++◌, [], ap, refl, sym}
use Rattle.std.specs.Prelude.{if◌then◌else◌}
use Rattle.std.proofs.lemmas.Result.{on_ok_weaker}
use Rattle.ariadne_picture.specs.Pieces.{aside_texts}
use Rattle.ariadne_picture.specs.Rows.{asides, help, note}
use Rattle.ariadne_layout.specs.Snippets.{sheet_in}
use Rattle.ariadne_render.specs.Pages.{DrawsRows}
use Rattle.ariadne_render.proofs.Drawn.{page_kept}
use Rattle.ariadne_render.specs.RowTexts.{rows_of}
use Rattle.ariadne_render.specs.Writers.{IsBehind}
use Rattle.ariadne_render.specs.declared.writer.Writer.{Writer}
use Rattle.ariadne_render.proofs.KnownSnippets.{behind-kept, gutter-switches}
use Rattle.ariadne_render.proofs.GroupRows.{both_asides, foot_long, foot_short, no_asides}
use Rattle.ariadne_render.proofs.frames.push_foot.Given.{Over}
use Rattle.ariadne_render.proofs.frames.push_foot.Goals.{After-switches}
use Rattle.ariadne_render.proofs.frames.push_foot.Goals as goal
use Rattle.ariadne_render.proofs.frames.push_foot.Goals.{then-is_last+in_ok-push_asides+in_ok-push_asides-2, else-is_last}

-- the helps leave the gutter as it was
pub push_asides-requires-then-is_last : goal.push_asides-requires-then-is_last
push_asides-requires-then-is_last g c =
    record { at = behind-kept c.args.snippet.now c.args.writer.now c.push_asides.new.writer _ c.requires.at c.in_ok-push_asides.ensures }

-- the helps and the notes, where the group is the last
above : (g : Over) (c : After-switches g) → DrawsRows c.args.writer.now.pen c.if-is_last.writer.pen (rows_of c.args.writer.now.pen.page
    c.args.snippet.now
    (if c.args.snippet.now.section.is_last
    then asides c.args.writer.now.pen.page.switches.compact help c.args.snippet.now.texts.helps
    ++ asides c.args.writer.now.pen.page.switches.compact note c.args.snippet.now.texts.notes
    else []))
unfolding aside_texts
above g c =
    let v = c.args.snippet.now in
    let old = c.args.writer.now.pen in
    elim c.if-is_last.branch [
      | then-is_last+in_ok-push_asides+in_ok-push_asides-2 w ↦
          rw w.writer-is
          (both_asides v.texts v.section old w.push_asides.new.writer.pen w.push_asides-then-is_last.new.writer.pen v.section.is_last refl
          (sym c.is_last-is_last.ensures ∙ w.if-is_last.true) w.in_ok-push_asides.ensures.drawn w.in_ok-push_asides-2.ensures.drawn)
      | else-is_last w ↦
          no_asides v.texts v.section old c.if-is_last.writer.pen v.section.is_last (sym c.is_last-is_last.ensures ∙ w.if-is_last.false)
          (ap (λ (x : Writer). x.pen) w.writer-is)
    ]

-- pen and gutter are as below all lines
behind : (g : Over) (c : After-switches g) → IsBehind c.args.snippet.now c.if-is_last.writer
behind g c =
    let v = c.args.snippet.now in
    elim c.if-is_last.branch [
      | then-is_last+in_ok-push_asides+in_ok-push_asides-2 w ↦
          rw w.writer-is
          (behind-kept v w.push_asides.new.writer w.push_asides-then-is_last.new.writer _
          (behind-kept v c.args.writer.now w.push_asides.new.writer _ c.requires.at w.in_ok-push_asides.ensures) w.in_ok-push_asides-2.ensures)
      | else-is_last w ↦ rw w.writer-is c.requires.at
    ]

-- no tail in a compact picture
pub returns-then-switches-clause-at : goal.returns-then-switches-clause-at
returns-then-switches-clause-at g c = behind g (goal.at.returns-then-switches-clause-at g c).After-switches

pub returns-then-switches-clause-drawn : goal.returns-then-switches-clause-drawn
returns-then-switches-clause-drawn g c =
    let v = c.args.snippet.now in
    foot_short v.texts v.section c.args.writer.now.pen c.if-is_last.writer.pen _ c.page.result.now c.switches.result.now
    (above g (goal.at.returns-then-switches-clause-drawn g c).After-switches) c.page.ensures c.switches.ensures.switches c.if-switches.true

-- a tail in any other
pub returns-clause-at : goal.returns-clause-at
returns-clause-at g c =
    let at = behind g (goal.at.returns-clause-at g c).After-switches in
    on_ok_weaker c.push_tail.result
    (λ d. record {
      is_snippet = at.is_snippet;
      one_page = at.one_page ∙ sym (page_kept c.if-is_last.writer.pen c.push_tail.new.pen _ d);
      gutter = at.gutter;
    })
    c.push_tail.ensures

pub returns-clause-drawn : goal.returns-clause-drawn
returns-clause-drawn g c =
    let v = c.args.snippet.now in
    let at = c.requires.at in
    on_ok_weaker c.push_tail.result
    (foot_long v.texts v.section c.args.writer.now.pen c.if-is_last.writer.pen c.push_tail.new.pen _ c.page.result.now c.switches.result.now
    c.is_last-is_last.result (above g (goal.at.returns-clause-drawn g c).After-switches) c.page.ensures c.switches.ensures.switches
    c.if-switches.false (gutter-switches (sheet_in v) c.args.writer.now.pen.page c.args.writer.now.gutter at.one_page at.gutter)
    (sym c.is_last-is_last.ensures)) c.push_tail.ensures
