use Rattle.std.proofs.Common.{◌++◌, option_to_list, rules}
use Rattle.std.proofs.lemmas.List.Sorted.{IsNonDecreasingBy-from_sort_by_key}
use Rattle.std.proofs.lemmas.Result.{on_ok_weaker}
use Rattle.ariadne_picture.specs.declared.sight.Part.{Part}
use Rattle.ariadne_layout.proofs.JoinedParts.{ordered-needed, ordered-some}
use Rattle.ariadne_layout.proofs.cuts.push_needed.Goals as goal

-- the list of the parts is put in order
pub returns-clause-needed : goal.returns-clause-needed
returns-clause-needed c =
    let y = c.args.layout.now in
    on_ok_weaker c.sort_by_key.result (λ sorted. ordered-needed c.args.spans y.offset (option_to_list y.margin ++ y.labels) c.list_needed.new.list.items _
    c.in_ok-list_needed.ensures c.sort_by_key.ensures.permutation) c.sort_by_key.ensures.sorted

pub returns-clause-order : goal.returns-clause-order
returns-clause-order c =
    on_ok_weaker c.sort_by_key.result (λ sorted. IsNonDecreasingBy-from_sort_by_key (λ (p : Part). p.from) _ sorted (λ a r q k. search rules)) c.sort_by_key.ensures.sorted

pub returns-clause-places : goal.returns-clause-places
returns-clause-places c =
    let y = c.args.layout.now in
    on_ok_weaker c.sort_by_key.result (λ sorted. ordered-some c.args.spans y.offset (option_to_list y.margin ++ y.labels) c.list_needed.new.list.items _
    c.in_ok-list_needed.ensures c.sort_by_key.ensures.permutation) c.sort_by_key.ensures.sorted
