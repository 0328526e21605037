use Rattle.std.proofs.Common.{◌≡◌, ◌<◌, ◌∙◌, length, map, string_bytes, arith, refl, sym, ap, subst}
use Rattle.std.proofs.lemmas.List.{length-map}
use Rattle.ariadne_picture.specs.Pieces.{Texts, aside_texts, row_pieces}
use Rattle.ariadne_render.proofs.Drawn.{rows_page}
use Rattle.ariadne_render.specs.AsideKinds.{aside_of}
use Rattle.ariadne_render.proofs.AsideRows.{draws_aside, draws_asides_all, draws_asides_more, draws_asides_none, text_at}
use Rattle.ariadne_render.proofs.KnownSnippets.{behind-kept}
use Rattle.ariadne_render.proofs.asides.push_asides.Given.{Over}
use Rattle.ariadne_render.proofs.asides.push_asides.Goals.{After-texts_in-texts}
use Rattle.ariadne_render.proofs.asides.push_asides.Goals as goal

-- the texts are those of the report
told : (g : Over) (c : After-texts_in-texts g)
    → aside_texts c.args.snippet.now.texts (aside_of c.args.kind) ≡ map string_bytes c.texts_in-texts.result.now
told g c =
    let a = aside_of c.args.kind in
    sym (c.texts_in-texts.ensures ∙ ap (λ (t : Texts). aside_texts t a) c.texts.ensures)

-- no text is written
pub loop-index-init : goal.loop-index-init
loop-index-init g c =
    let v = c.args.snippet.now in
    let a = aside_of c.args.kind in
    let pen = c.args.writer.now.pen in
    record {
      drawn = draws_asides_none pen (row_pieces v.texts pen.page.number_width v.section) pen.page.switches.compact a (aside_texts v.texts a);
      bars = refl;
    }

-- ---- the next text

-- the gutter is as it was
pub push_above-requires : goal.push_above-requires
push_above-requires g c =
    record { at = behind-kept c.args.snippet.now c.args.writer.now c.loop-index.writer _ c.requires.at c.loop-index.invariant }

-- the text is one of them
pub push_lines-requires : goal.push_lines-requires
push_lines-requires g c =
    let v = c.args.snippet.now in
    let a = aside_of c.args.kind in
    let k = c.loop-index.index in
    let b = told g (goal.at.push_lines-requires g c).After-texts_in-texts in
    let long : length c.texts_in-texts.result.now ≡ length (aside_texts v.texts a) =
    sym (ap length b ∙ length-map c.texts_in-texts.result.now string_bytes) in
    record {
      at = behind-kept v c.loop-index.writer c.push_above.new.writer _
          (behind-kept v c.args.writer.now c.loop-index.writer _ c.requires.at c.loop-index.invariant) c.in_ok-push_above.ensures;
      within = subst (λ n. k < n) long c.loop-index-test.true;
      text = text_at string_bytes (aside_texts v.texts a) c.texts_in-texts.result.now k c.index-texts-index.result c.as_str.result.now b
          c.loop-index-test.true c.index-texts-index.is c.as_str.ensures.value;
    }

-- a turn writes the row above one text more, and those of its lines
pub loop-index-preserved : goal.loop-index-preserved
loop-index-preserved g c =
    let v = c.args.snippet.now in
    let a = aside_of c.args.kind in
    let k = c.loop-index.index in
    let pen = c.args.writer.now.pen in
    let before = c.loop-index.writer.pen in
    let above = c.push_above.new.writer.pen in
    let new = c.push_lines.new.writer.pen in
    let b = told g (goal.at.loop-index-preserved g c).After-texts_in-texts in
    let long : length c.texts_in-texts.result.now ≡ length (aside_texts v.texts a) =
    sym (ap length b ∙ length-map c.texts_in-texts.result.now string_bytes) in
    let within : k < length (aside_texts v.texts a) = subst (λ n. k < n) long c.loop-index-test.true in
    let text = text_at string_bytes (aside_texts v.texts a) c.texts_in-texts.result.now k c.index-texts-index.result c.as_str.result.now b
    c.loop-index-test.true c.index-texts-index.is c.as_str.ensures.value in
    let rows = draws_aside before above new v.texts v.section a k c.as_str.result.now (rows_page before above _ c.in_ok-push_above.ensures.drawn)
    c.in_ok-push_above.ensures.drawn c.in_ok-push_lines.ensures.drawn in
    record {
      drawn = draws_asides_more pen before new v.texts v.section a (aside_texts v.texts a) k c.as_str.result.now within text
          (rows_page pen before _ c.loop-index.invariant.drawn) c.loop-index.invariant.drawn rows;
      bars = c.in_ok-push_lines.ensures.bars ∙ c.in_ok-push_above.ensures.bars ∙ c.loop-index.invariant.bars;
    }

-- the last turn was at the last text
pub returns : goal.returns
returns g c =
    let v = c.args.snippet.now in
    let a = aside_of c.args.kind in
    let pen = c.args.writer.now.pen in
    let b = told g (goal.at.returns g c).After-texts_in-texts in
    let long : length (aside_texts v.texts a) ≡ length c.texts_in-texts.result.now = ap length b ∙ length-map c.texts_in-texts.result.now string_bytes in
    record {
      drawn = draws_asides_all pen c.loop-index.writer.pen (row_pieces v.texts pen.page.number_width v.section) pen.page.switches.compact a
          (aside_texts v.texts a) c.loop-index.index (omega (arith, long, c.loop-index-test.false)) c.loop-index.invariant.drawn;
      bars = c.loop-index.invariant.bars;
    }
