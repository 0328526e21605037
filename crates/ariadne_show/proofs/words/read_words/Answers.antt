-- Where `clap` finds nothing wrong, a width that is none is, and one that is some is asked for with all else.
use Rattle.ariadne_show.proofs.Commands.{asked, wrong_width}
use Rattle.ariadne_show.proofs.words.read_words.Goals as goal

pub returns-in-Ok-clause-refused : goal.returns-in-Ok-clause-refused
returns-in-Ok-clause-refused c =
    wrong_width _ c.in-Ok.matches c.in_ok-no_width-in-None.field-0 c.in-Ok.ensures c.in-None.ensures c.in_ok-no_width-in-None.ensures

pub returns-in-Some-clause-asked : goal.returns-in-Some-clause-asked
returns-in-Some-clause-asked c =
    asked _ c.in-Ok.matches c.options_of.result c.in-Some.width c.in_ok-inputs_of-in-Some.field-0.items c.in-Ok.ensures c.in-Some.ensures
    c.options_of.ensures.options c.options_of.ensures.width c.in_ok-inputs_of-in-Some.ensures
