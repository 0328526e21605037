use Rattle.std.proofs.Common.{◌∙◌, rules, tests}
use Rattle.std.proofs.lemmas.Iterator.{YieldsList-from_slice}
use Rattle.std.proofs.lemmas.Iterator.Search.{any_from_yields_List}
use Rattle.std.specs.Str.{bytes_eq}
use Rattle.ariadne_matcher_tables.proofs.MemberNames.{among_now}
use Rattle.ariadne_matcher_tables.proofs.members.is_among.Goals as goal

-- each is asked
pub returns : goal.returns
returns c =
    any_from_yields_List (λ it. bytes_eq it.now c.args.name.now) _ _ _ c.any.ensures.ran
    (YieldsList-from_slice c.args.known.now c.iter.ensures.rest) (λ x b q k. search (rules, tests))
    ∙ among_now c.args.known.now c.args.name.now
