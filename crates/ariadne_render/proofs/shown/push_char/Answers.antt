use Rattle.std.proofs.Common.{◌≡◌, ◌∙◌, sym, ap, subst, replicate, arith}
use Rattle.std.proofs.lemmas.Result.{on_ok_weaker}
use Rattle.ariadne_color.specs.Colors.{painted}
use Rattle.ariadne_picture.specs.declared.switches.Switches.{Switches}
use Rattle.ariadne_picture.specs.Canvas.{color_of}
use Rattle.ariadne_picture.specs.Columns.{shown, shown_columns, whole_column}
use Rattle.ariadne_picture.specs.Pieces.{char_pieces}
use Rattle.ariadne_render.specs.Pages.{Draws, PageFields}
use Rattle.ariadne_render.proofs.Drawn.{adds_same}
use Rattle.ariadne_render.specs.ShownTexts.{blank_of}
use Rattle.ariadne_render.proofs.ShownRows.{draws_char, tab_pieces}
use Rattle.ariadne_render.proofs.shown.push_char.Goals as goal

-- what is no tab is one piece, wherever it begins
pub returns-then-c-ne9-clause-drawn : goal.returns-then-c-ne9-clause-drawn
returns-then-c-ne9-clause-drawn c = λ y h below.
    let pen = c.args.pen.now in
    let s = pen.page.switches in
    on_ok_weaker c.push_piece_char.result
    (λ adds. (
      h,
      draws_char pen c.push_piece_char.new.self s c.args.paint (whole_column s.tab_width (shown y) c.args.place) c.args.c c.if-c-ne9.true
          (adds_same pen c.push_piece_char.new.self _ _ (ap (painted (color_of pen.page.palette c.args.paint)) c.shown_char.ensures) adds),
    ))
    c.push_piece_char.ensures

-- the place of a tab is counted
pub returns-clause-place : goal.returns-clause-place
returns-clause-place c = on_ok_weaker c.push_tab.result (λ _. c.in_ok-go_to.ensures.place) c.push_tab.ensures

-- a tab is its blanks
pub returns-clause-drawn : goal.returns-clause-drawn
returns-clause-drawn c = λ y h below.
    let pen = c.args.pen.now in
    let s = pen.page.switches in
    let x = whole_column s.tab_width (shown y) c.args.place in
    let same : c.switches.result.now ≡ s = c.switches.ensures.switches ∙ ap (λ (p : PageFields). p.switches) c.page.ensures in
    let counted = c.in_ok-go_to.ensures.counted s y (sym (ap (λ (q : Switches). q.tab_width) same)) h (omega (arith, below)) in
    let begins : c.go_to.new.self.column ≡ x = counted.0.column ∙ ap (whole_column s.tab_width (shown y)) counted.1 in
    let columns : c.shown_columns.result ≡ shown_columns s.tab_width x c.args.c =
    c.shown_columns.ensures ∙ (λ i. shown_columns ((same i).tab_width) (begins i) c.args.c) in
    let cells : replicate c.shown_columns.result (blank_of c.args.paint) ≡ char_pieces s c.args.paint x c.args.c =
    ap (λ n. replicate n (blank_of c.args.paint)) columns ∙ sym (tab_pieces s c.args.paint x c.args.c c.if-c-ne9.false) in
    on_ok_weaker c.push_tab.result (λ draws. (counted.0, subst (Draws pen c.push_tab.new.pen) cells draws)) c.push_tab.ensures
