use Rattle.std.proofs.Common.{rules, tests}
use Rattle.std.proofs.lemmas.Iterator.{YieldsList-from_slice}
use Rattle.std.proofs.lemmas.Iterator.Search.{any_from_yields_List}
use Rattle.ariadne_matcher_tables.specs.MatcherTables.{is_named_so}
use Rattle.ariadne_matcher_tables.proofs.tables.has_name.Goals as goal

-- each entry is asked
pub returns : goal.returns
returns c =
    any_from_yields_List (is_named_so c.args.name.now) _ _ _ c.any.ensures.ran
    (YieldsList-from_slice c.args.all.now c.iter.ensures.rest) (λ x b q k. search (rules, tests))
