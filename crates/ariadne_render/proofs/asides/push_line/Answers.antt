use Rattle.std.proofs.Common.{◌≡◌, ◌∙◌, ap, arith, length, refl, string_bytes, subst, sym}
use Rattle.std.proofs.lemmas.List.{length-map}
use Rattle.std.proofs.lemmas.Result.{on_ok_weaker}
use Rattle.ariadne_picture.specs.Pieces.{Texts, aside_texts}
use Rattle.ariadne_render.specs.Pages.{Draws}
use Rattle.ariadne_render.specs.AsideKinds.{aside_of}
use Rattle.ariadne_render.proofs.AsideRows.{aside_word, draws_aside_piece, starts_piece, told_is}
use Rattle.ariadne_render.proofs.KnownSnippets.{on-page}
use Rattle.ariadne_render.proofs.asides.push_line.Given.{Over}
use Rattle.ariadne_render.proofs.asides.push_line.Goals.{After-texts_in}
use Rattle.ariadne_render.proofs.asides.push_line.Goals as goal

-- there are as many texts as the report has
count : (g : Over) (c : After-texts_in g) → length c.texts_in.result.now ≡ length (aside_texts c.args.snippet.now.texts (aside_of c.args.kind))
count g c =
    let a = aside_of c.args.kind in
    sym (length-map c.texts_in.result.now string_bytes) ∙ ap length (c.texts_in.ensures ∙ ap (λ (t : Texts). aside_texts t a) c.texts.ensures)

-- the text is one of them
pub number_of-told-requires : goal.number_of-told-requires
number_of-told-requires g c =
    let n = count g (goal.at.number_of-told-requires g c).After-texts_in in
    let within = c.requires.within in
    omega (arith, n, within)

-- a margin, a gutter, and the line's text
pub returns : goal.returns
returns g c =
    let v = c.args.snippet.now in
    let a = aside_of c.args.kind in
    let k = c.args.number in
    let p = c.args.index in
    let at = c.requires.at in
    let pen = c.args.writer.now.pen in
    let gutter = c.args.writer.now.gutter in
    let second = c.push_blank.new.pen in
    let third = c.push_line_text.new.pen in
    let n = count g (goal.at.returns g c).After-texts_in in
    let start = starts_piece pen c.push_margin.new.self second v.section.sheet gutter at.one_page at.gutter c.in_ok-push_margin.ensures
    c.in_ok-push_blank.ensures.bars c.in_ok-push_blank.ensures.blanks a k p in
    let prefix = aside_word v.texts a k (length c.texts_in.result.now) c.word.result.now c.number_of-told.result c.word.ensures n
    c.number_of-told.ensures in
    let text = subst (Draws second third) (told_is v.texts a k p c.word.result.now c.number_of-told.result c.args.line.now prefix c.requires.line)
    c.in_ok-push_line_text.ensures in
    on_ok_weaker c.end_row.result
    (λ h. record {
      drawn = draws_aside_piece pen v.texts v.section (on-page v pen.page gutter at.is_snippet at.one_page at.gutter) second third
          c.end_row.new.self a k p start text h;
      bars = refl;
    })
    c.end_row.ensures
