use Rattle.std.proofs.Common.{◌∙◌, ap, map, sym, not, rules, tests, string_bytes}
use Rattle.std.proofs.lemmas.Iterator.Consumers.{YieldsList-from_rest}
use Rattle.std.proofs.lemmas.Iterator.Search.{find_from_yields_List}
use Rattle.std.specs.Map.{keys_of}
use Rattle.std.specs.Option.{option_map}
use Rattle.ariadne_matcher_tables.proofs.MemberNames.{one_unknown, only_known}
use Rattle.ariadne_matcher_tables.specs.TableMembers.{is_among}
use Rattle.ariadne_matcher_tables.proofs.members.check_names.Goals as goal

-- the first that is unknown, if there is one
pub returns-in_ok-from_str-in-Some-find-clause-fault : goal.returns-in_ok-from_str-in-Some-find-clause-fault
returns-in_ok-from_str-in-Some-find-clause-fault c =
    let es = c.in-Some.members.now.entries in
    let found = find_from_yields_List (λ k. not (is_among (map (λ it. it.now) c.args.known.now) (string_bytes k))) _ _ c.find.result c.find.ensures.ran
    (YieldsList-from_rest (keys_of es) c.keys.ensures.rest) (λ x b q k. search (rules, tests)) in
    let name = c.in_ok-from_str-in-Some-find.ensures.ok ∙ c.as_str.ensures.value in
    rw name (one_unknown (map (λ it. it.now) c.args.known.now) _ es c.in-Some.ensures c.in-Some-find.name.now (sym found ∙ ap (option_map (λ x. x.now)) c.in-Some-find.is))

-- there is none
pub returns-in-None-clause-only : goal.returns-in-None-clause-only
returns-in-None-clause-only c =
    let es = c.in-Some.members.now.entries in
    let found = find_from_yields_List (λ k. not (is_among (map (λ it. it.now) c.args.known.now) (string_bytes k))) _ _ c.find.result c.find.ensures.ran
    (YieldsList-from_rest (keys_of es) c.keys.ensures.rest) (λ x b q k. search (rules, tests)) in
    only_known (map (λ it. it.now) c.args.known.now) _ es c.in-Some.ensures (sym found ∙ ap (option_map (λ x. x.now)) c.in-None.is)
