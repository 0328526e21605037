use Rattle.std.proofs.lemmas.Result.{on_ok_weaker}
use Rattle.serde_json.specs.View.{view}
use Rattle.ariadne_parse.proofs.GccLists.{parsed_behind}
use Rattle.ariadne_parse.proofs.gcc.push_parsed.Goals as goal

-- the value stands behind the last
pub returns-in-Some-clause-all : goal.returns-in-Some-clause-all
returns-in-Some-clause-all c =
    on_ok_weaker c.push_behind.result
    (λ behind. parsed_behind (view c.args.value.now) c.args.all.now.items c.pop.new.self.items c.push_behind.new.all.items
    c.in-Some.last c.in-Some.ensures.items behind)
    c.push_behind.ensures.all
