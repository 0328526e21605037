use Rattle.std.proofs.Common.{◌∙◌, ap, Some}
use Rattle.ariadne_show.proofs.Commands.{typed}
use Rattle.ariadne_show.proofs.words.text.Goals as goal

pub returns : goal.returns
returns c =
    let given = c.value_parser.ensures.given in
    typed _ _ _ _ c.option.ensures c.value_parser.ensures.others (given.1 ∙ ap Some given.2)
