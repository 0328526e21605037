use Rattle.std.proofs.Common.{◌∙◌, ap, Some}
use Rattle.ariadne_show.proofs.Commands.{typed}
use Rattle.ariadne_show.proofs.words.number.Goals as goal

pub returns : goal.returns
returns c =
    let number = c.value_parser-2.ensures in
    typed _ _ _ _ c.option.ensures number.others (number.given.1 ∙ ap Some (number.given.2 ∙ c.value_parser.ensures))
