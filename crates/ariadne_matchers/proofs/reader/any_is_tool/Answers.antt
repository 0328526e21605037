use Rattle.std.proofs.Common.{rules, tests}
use Rattle.std.proofs.lemmas.Iterator.{YieldsList-from_slice}
use Rattle.std.proofs.lemmas.Iterator.Search.{any_from_yields_List}
use Rattle.std.specs.Prelude.{string_bytes}
use Rattle.std.specs.Str.{bytes_eq}
use Rattle.ariadne_matchers.proofs.reader.any_is_tool.Goals as goal

-- each name is asked
pub returns : goal.returns
returns c =
    any_from_yields_List (λ name. bytes_eq (string_bytes name) c.args.tool.now) _ _ _ c.any.ensures.ran
    (YieldsList-from_slice c.args.names.now c.iter.ensures.rest) (λ x b q k. search (rules, tests))
