use Rattle.std.proofs.Common.{◌∙◌, rules, tests}
use Rattle.std.proofs.lemmas.Iterator.{YieldsList-from_slice}
use Rattle.std.proofs.lemmas.Iterator.Search.{any_from_yields_List}
use Rattle.ariadne_matchers.proofs.LastLines.{any_seen}
use Rattle.ariadne_matchers.specs.Catches.{caught_at}
use Rattle.ariadne_matchers.specs.Lasts.{names_place}
use Rattle.ariadne_matchers.proofs.lasts.any_names_place.Goals as goal

-- each line is asked
pub returns : goal.returns
returns c =
    any_from_yields_List (λ caught. names_place (caught_at caught)) _ _ _ c.any.ensures.ran
    (YieldsList-from_slice c.args.lines.now c.iter.ensures.rest) (λ x b q k. search (rules, tests))
    ∙ any_seen names_place caught_at c.args.lines.now
