-- The labels are put in order in place.
use Rattle.ariadne_report.proofs.Grouping.{sorted_is}
use Rattle.ariadne_report.proofs.groups.in_order.Goals as goal

-- they are those that were lent, in order
pub returns : goal.returns
returns c =
    let infos = c.args.infos in
    sorted_is infos.items c.deref_mut.result.now c.put_in_order.new.items infos.len infos.ok.0 c.deref_mut.ensures.value
    c.in_ok-put_in_order.ensures
