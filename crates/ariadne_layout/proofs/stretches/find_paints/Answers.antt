use Rattle.std.proofs.Common.{◌+◌, ◌++◌, ◌∙◌, ap, arith, option_to_list}
use Rattle.std.proofs.lemmas.Result.{on_ok_weaker}
use Rattle.ariadne_layout.specs.Choices.{infos_of, numbered, shown_position}
use Rattle.ariadne_layout.specs.Tables.{position_paint}
use Rattle.ariadne_layout.proofs.Stretched.{paint_shown}
use Rattle.ariadne_layout.proofs.Touching.{painters_kept}
use Rattle.ariadne_layout.proofs.stretches.find_paints.Goals as goal

-- they are those of the labels that may hold a shown character
pub returns : goal.returns
returns c =
    let y = c.args.layout.now in
    let multi_line = c.args.multi_line.now in
    let touching = c.args.touching.now in
    let margin = c.as_ref.ensures.value ∙ c.margin-margin.ensures in
    let same = c.painters-labels.ensures.infos
    ∙ (λ i. infos_of (option_to_list (margin i)) ++ numbered multi_line touching ++ infos_of (c.labels.ensures i)) in
    on_ok_weaker c.fill.result
    (λ h k below.
    ap position_paint (h k (omega (arith, c.shown_len.ensures)) ∙ (λ i. shown_position (same i) (c.offset.ensures i + k))
    ∙ painters_kept multi_line touching y k c.requires.within c.requires.rising c.requires.touching below)
    ∙ paint_shown multi_line y k)
    c.fill.ensures
